use Rattle.std.proofs.Common.{◌≡◌, drop, false, sym, ◌∙◌, ap, arith, below_more}
use Rattle.std.proofs.lemmas.List.{drop-drop, length-drop, take_rest}
use Rattle.match_text.specs.view.Segment.{begins}
use Rattle.match_text.proofs.Greedy.{first_place-at}
use Rattle.match_text.proofs.Standing.{tried_all}
use Rattle.match_text.proofs.segments.find_place.Goals as goal

pub returns-then-begins : goal.returns-then-begins
returns-then-begins c =
    let within = c.places.invariant.within in
    sym (first_place-at (begins c.args.segment.now) c.args.text.now c.places.place (omega arith)
    (ap (begins c.args.segment.now) (sym c.places.invariant.rest) ∙ sym c.begins.ensures ∙ c.if-begins.true)
    c.places.invariant.nowhere)

pub returns-in_default : goal.returns-in_default
returns-in_default c =
    let within = c.places.invariant.within in
    let ended = c.in_default.len_below in
    tried_all c.args.segment.now c.args.text.now c.places.place (omega arith) c.places.invariant.nowhere
    (ap (begins c.args.segment.now) (sym c.places.invariant.rest) ∙ sym c.begins.ensures ∙ c.if-begins.false)

pub places-preserved : goal.places-preserved
places-preserved c =
    let here : begins c.args.segment.now (drop c.places.place c.args.text.now) ≡ false =
    ap (begins c.args.segment.now) (sym c.places.invariant.rest) ∙ sym c.begins.ensures ∙ c.if-begins.false in
    record {
      rest = take_rest c.places.rest.now 1 ∙ ap (drop 1) c.places.invariant.rest ∙ drop-drop 1 c.places.place c.args.text.now;
      within = rw take_rest (omega (arith, c.places.invariant.within, length-drop 1 c.places.rest.now, c.in-len1-up.len_at_least));
      nowhere = below_more _ _ c.places.invariant.nowhere here;
    }
