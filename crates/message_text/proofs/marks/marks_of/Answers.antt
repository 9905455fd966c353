use Rattle.std.proofs.Common.{◌++◌, ◌+◌, List, drop, sym, ap, ◌∙◌, arith}
use Rattle.std.proofs.lemmas.List.{append-nil, drop_all}
use Rattle.message_text.specs.Addresses.{marks_from}
use Rattle.message_text.specs.declared.marks.Marked.{Marked}
use Rattle.message_text.proofs.MarkLemmas.{marked_by, marks_from-nil, marks_more}
use Rattle.message_text.proofs.marks.marks_of.Goals as goal

pub loop-place-preserved : goal.loop-place-preserved
loop-place-preserved c =
    let value = c.args.value.now in
    let place = c.loop-place.place in
    let spot = c.loop-place.spot in (
      omega (arith, c.loop-place.invariant.0, c.surroundings_after-spot.ensures.depth),
      ap (λ (marked : List Marked). marked ++ marks_from c.surroundings_after-spot.result (drop (place + 1) value)) c.in_ok-push.ensures.items
          ∙ marks_more c.loop-place.marked.items _ spot c.surroundings_after-spot.result value place (omega arith) (marked_by spot _ _ _ c.mark_at.ensures) c.surroundings_after-spot.ensures.spot c.loop-place.invariant.1,
    )

pub returns : goal.returns
returns c =
    let value = c.args.value.now in
    let spot = c.loop-place.spot in
    sym (append-nil c.loop-place.marked.items)
    ∙ ap (λ (rest : List Marked). c.loop-place.marked.items ++ rest) (sym (ap (marks_from spot) (drop_all c.loop-place.place value (omega arith)) ∙ marks_from-nil spot))
    ∙ c.loop-place.invariant.1
