use Rattle.std.proofs.Common.{◌≡◌, ◌-◌, List, [], ℕ, length, take, sym, ap, subst, ◌∙◌, length-append, arith}
use Rattle.std.proofs.lemmas.List.{take_all}
use Rattle.mime_text.specs.view.Cuts.{Follows}
use Rattle.mime_text.proofs.Stretches.{front_more, split_more, one_more, stops_at_closing, stops_at_delimiter, stops_at_end, stretch_before_closing, stretch_before_delimiter, stretch_to_end}
use Rattle.mime_text.proofs.multipart.Boundary.next_stretch.Goals as goal

pub returns-in-Delimiter-clause-text : goal.returns-in-Delimiter-clause-text
returns-in-Delimiter-clause-text c = λ boundary made.
    c.text_before.ensures
    ∙ stretch_before_delimiter boundary _ _ made c.in-Some.line.now c.in-Some.after.now c.loop-line.rest.now c.in-Some.ensures.lines _ c.args.text.now (c.loop-line.invariant.follows boundary made) (sym c.kind_of.ensures ∙ c.in-Delimiter.is)

pub returns-in-Delimiter-clause-stop : goal.returns-in-Delimiter-clause-stop
returns-in-Delimiter-clause-stop c = λ boundary made.
    let both = stops_at_delimiter boundary _ _ made c.in-Some.line.now c.in-Some.after.now c.loop-line.rest.now c.in-Some.ensures.lines _ c.args.text.now (c.loop-line.invariant.follows boundary made) (sym c.kind_of.ensures ∙ c.in-Delimiter.is) in record { parts = both.0; epilogue = both.1 }

pub returns-in-Closing-clause-text : goal.returns-in-Closing-clause-text
returns-in-Closing-clause-text c = λ boundary made.
    c.text_before-in-Closing.ensures
    ∙ stretch_before_closing boundary _ _ made c.in-Some.line.now c.in-Some.after.now c.loop-line.rest.now c.in-Some.ensures.lines _ c.args.text.now (c.loop-line.invariant.follows boundary made) (sym c.kind_of.ensures ∙ c.in-Closing.is)

pub returns-in-Closing-clause-stop : goal.returns-in-Closing-clause-stop
returns-in-Closing-clause-stop c = λ boundary made.
    let both = stops_at_closing boundary _ _ made c.in-Some.line.now c.in-Some.after.now c.loop-line.rest.now c.in-Some.ensures.lines _ c.args.text.now (c.loop-line.invariant.follows boundary made) (sym c.kind_of.ensures ∙ c.in-Closing.is) in record { parts = both.0; epilogue = both.1 }

pub loop-line-preserved : goal.loop-line-preserved
loop-line-preserved c =
    let text : List ℕ = c.args.text.now in
    let rest : List ℕ = c.loop-line.rest.now in
    let line : List ℕ = c.in-Some.line.now in
    let after : List ℕ = c.in-Some.after.now in
    let front : List ℕ = take (length text - length rest) text in
    let is = front_more text rest line after c.loop-line.invariant.split c.in-Some.ensures.joined in
    record {
      within = omega (arith, ap length c.in-Some.ensures.joined, length-append line after, c.loop-line.invariant.within);
      split = split_more text rest line after c.loop-line.invariant.split c.in-Some.ensures.joined;
      follows = λ boundary made. subst (λ (l : List ℕ). Follows boundary l text after) (sym is)
          (one_more boundary _ _ made line after rest c.in-Some.ensures.lines front text (c.loop-line.invariant.follows boundary made) (sym c.kind_of.ensures ∙ c.in-Inner.is));
    }

pub returns-clause-text : goal.returns-clause-text
returns-clause-text c = λ boundary made.
    let text : List ℕ = c.args.text.now in
    let whole : take (length text - 0) text ≡ text = take_all (length text - 0) text (omega arith) in
    stretch_to_end boundary text (subst (λ (l : List ℕ). Follows boundary l text []) whole (subst (λ (l : List ℕ). Follows boundary (take (length text - length l) text) text l) c.in_default.ensures.lines (c.loop-line.invariant.follows boundary made)))

pub returns-clause-stop : goal.returns-clause-stop
returns-clause-stop c = λ boundary made.
    let text : List ℕ = c.args.text.now in
    let whole : take (length text - 0) text ≡ text = take_all (length text - 0) text (omega arith) in
    let both = stops_at_end boundary text (subst (λ (l : List ℕ). Follows boundary l text []) whole (subst (λ (l : List ℕ). Follows boundary (take (length text - length l) text) text l) c.in_default.ensures.lines (c.loop-line.invariant.follows boundary made))) in record { parts = both.0; epilogue = both.1 }
