use Rattle.std.proofs.Common.{◌≡◌, ◌+◌, ◌++◌, List, Some, None, true, false, if◌then◌else◌, drop, sym, ap, ◌∙◌, arith}
use Rattle.std.proofs.lemmas.List.{append-nil}
use Rattle.mime_text.specs.Marks.{marks_from}
use Rattle.structured_text.specs.Structure.{is_closed, strings_too}
use Rattle.structured_text.proofs.Closing.{closed_end, closed_step}
use Rattle.mime_text.specs.declared.marks.ValueMark.{ValueMark}
use Rattle.structured_text.specs.declared.state.LexerState.TheVariants.{Outside}
use Rattle.mime_text.proofs.Marked.{marks_end, marks_more}
use Rattle.mime_text.proofs.marks.marks_of.Goals as goal

pub loop-octet-preserved : goal.loop-octet-preserved
loop-octet-preserved c =
    let text = c.args.text.now in
    let i = c.loop-octet.octet-index in
    let spot = c.loop-octet.spot in
    record {
      depth = omega arith;
      marks = marks_more c.loop-octet.marks.items _ spot _ text i c.loop-octet-test.true c.in_ok-push_mark.ensures c.after-spot.ensures.is ∙ c.loop-octet.invariant.marks;
      closed = ap (λ next. is_closed strings_too next (drop (i + 1) text)) c.after-spot.ensures.is ∙ sym (closed_step strings_too spot text i c.loop-octet-test.true) ∙ c.loop-octet.invariant.closed;
    }

pub returns-then-is_outside : goal.returns-then-is_outside
returns-then-is_outside c =
    let text = c.args.text.now in
    let spot = c.loop-octet.spot in
    let i = c.loop-octet.octet-index in
    let done = c.loop-octet.marks.items in
    let closed : is_closed strings_too Outside text ≡ true = sym c.loop-octet.invariant.closed ∙ closed_end strings_too spot text i c.loop-octet-test.false ∙ sym c.is_outside.ensures ∙ c.if-is_outside.true in
    ap Some (sym (append-nil done) ∙ ap (λ (rest : List ValueMark). done ++ rest) (sym (marks_end spot text i c.loop-octet-test.false)) ∙ c.loop-octet.invariant.marks)
    ∙ ap (λ b. if b then Some (marks_from Outside text) else None) (sym closed)

pub returns-else-is_outside : goal.returns-else-is_outside
returns-else-is_outside c =
    let text = c.args.text.now in
    let spot = c.loop-octet.spot in
    let i = c.loop-octet.octet-index in
    let unclosed : is_closed strings_too Outside text ≡ false = sym c.loop-octet.invariant.closed ∙ closed_end strings_too spot text i c.loop-octet-test.false ∙ sym c.is_outside.ensures ∙ c.if-is_outside.false in
    ap (λ b. if b then Some (marks_from Outside text) else None) (sym unclosed)
