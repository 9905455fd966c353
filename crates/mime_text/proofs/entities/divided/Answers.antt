use Rattle.std.proofs.Common.{◌-◌, ◌++◌, List, ℕ, length, take, sym, ap, ◌∙◌, append_assoc, length-append, arith}
use Rattle.std.proofs.lemmas.List.{append-nil, take_all}
use Rattle.mime_text.specs.Entities.{body_of, header_of}
use Rattle.mime_text.proofs.Headers.{body_begins, body_goes_on, body_of_nothing, header_ends, header_goes_on, header_of_nothing}
use Rattle.mime_text.proofs.Stretches.{front_more, split_more}
use Rattle.mime_text.proofs.entities.divided.Goals as goal

pub loop-line-preserved : goal.loop-line-preserved
loop-line-preserved c =
    let text : List ℕ = c.args.text.now in
    let rest : List ℕ = c.loop-line.rest.now in
    let line : List ℕ = c.in-Some.line.now in
    let after : List ℕ = c.in-Some.after.now in
    let front : List ℕ = take (length text - length rest) text in
    let inner = sym c.is_line_end.ensures ∙ c.if-is_line_end.false in
    let is = front_more text rest line after c.loop-line.invariant.split c.in-Some.ensures.joined in
    record {
      within = omega (arith, ap length c.in-Some.ensures.joined, length-append line after, c.loop-line.invariant.within);
      split = split_more text rest line after c.loop-line.invariant.split c.in-Some.ensures.joined;
      header = c.loop-line.invariant.header ∙ ap (λ (l : List ℕ). front ++ l) (header_goes_on line after rest c.in-Some.ensures.lines inner) ∙ sym (append_assoc front line (header_of after)) ∙ ap (λ (l : List ℕ). l ++ header_of after) (sym is);
      body = c.loop-line.invariant.body ∙ body_goes_on line after rest c.in-Some.ensures.lines inner;
    }

pub returns-then-is_line_end-clause-header : goal.returns-then-is_line_end-clause-header
returns-then-is_line_end-clause-header c =
    let text : List ℕ = c.args.text.now in
    let front : List ℕ = take (length text - length c.loop-line.rest.now) text in
    sym (c.loop-line.invariant.header
    ∙ ap (λ (l : List ℕ). front ++ l) (header_ends c.in-Some.line.now c.in-Some.after.now c.loop-line.rest.now c.in-Some.ensures.lines (sym c.is_line_end.ensures ∙ c.if-is_line_end.true)) ∙ append-nil front)

pub returns-then-is_line_end-clause-body : goal.returns-then-is_line_end-clause-body
returns-then-is_line_end-clause-body c =
    sym (c.loop-line.invariant.body ∙ body_begins c.in-Some.line.now c.in-Some.after.now c.loop-line.rest.now c.in-Some.ensures.lines (sym c.is_line_end.ensures ∙ c.if-is_line_end.true))

pub returns-clause-header : goal.returns-clause-header
returns-clause-header c =
    let text : List ℕ = c.args.text.now in
    sym (c.loop-line.invariant.header
    ∙ ap (λ (r : List ℕ). take (length text - length r) text ++ header_of r) c.in_default.ensures.lines
    ∙ ap (λ (l : List ℕ). take (length text - 0) text ++ l) header_of_nothing ∙ append-nil (take (length text - 0) text) ∙ take_all (length text - 0) text (omega arith))

pub returns-clause-body : goal.returns-clause-body
returns-clause-body c = sym (c.loop-line.invariant.body ∙ ap body_of c.in_default.ensures.lines ∙ body_of_nothing)
