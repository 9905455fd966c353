use Rattle.std.proofs.Common.{◌≡◌, ◌∷◌, [], length, drop, sym, ◌∙◌, ap, arith}
use Rattle.std.proofs.lemmas.Bool.{eqb-false, eqb-true}
use Rattle.std.proofs.lemmas.List.{length-drop, take_rest}
use Rattle.match_text.specs.view.Segment.{before_star, from_star, texts_of}
use Rattle.match_text.proofs.Greedy.{begins-within, from_star-starred, place_of-within}
use Rattle.match_text.proofs.Passing.{both_shorter, end_failed, end_passed, front_missed, front_passed, items_fall, star_nowhere, star_passed}
use Rattle.match_text.proofs.wildcards.captured_texts.Goals as goal

pub returns-then-not-begins : goal.returns-then-not-begins
returns-then-not-begins c =
    front_missed c.args.items.now c.cut.result.0.now c.args.text.now c.args.value.now c.cut.ensures.segment (sym c.begins.ensures ∙ c.if-not-begins.true)

pub take_segment-requires-clause-within : goal.take_segment-requires-clause-within
take_segment-requires-clause-within c = begins-within c.cut.result.0.now c.args.text.now (sym c.begins.ensures ∙ c.if-not-begins.false)

pub loop-items_left-init : goal.loop-items_left-init
loop-items_left-init c =
    let pushed : texts_of c.push.new.self.items ≡ c.args.value.now ∷ [] = rw (c.in_ok-push.ensures.items, c.new-texts.ensures.items) in
    record {
      starred = rw c.cut.ensures.after (from_star-starred c.args.items.now);
      as_long = rw (c.in_ok-text_left.ensures.text, c.in_ok-text_left.ensures.value) (omega (arith, c.requires, length-drop (length c.cut.result.0.now) c.args.text.now, length-drop (length c.cut.result.0.now) c.args.value.now));
      taken = front_passed c.args.items.now c.cut.result.0.now c.cut.result.1.now c.args.text.now c.args.value.now c.in_ok-text_left.text_left.now c.in_ok-text_left.value_left.now
          _ _ c.cut.ensures.segment c.cut.ensures.after (sym c.begins.ensures ∙ c.if-not-begins.false) pushed c.in_ok-text_left.ensures.taken c.in_ok-text_left.ensures.text c.in_ok-text_left.ensures.value;
    }

pub returns-in_default-2 : goal.returns-in_default-2
returns-in_default-2 c =
    let items = c.loop-items_left.items_left.now in
    star_nowhere items c.cut-in-len1-up.result.0.now c.cut-in-len1-up.result.1.now c.loop-items_left.text_left.now c.loop-items_left.value_left.now
    (texts_of c.loop-items_left.texts.items) _ c.loop-items_left.invariant.starred c.in-len1-up.len_at_least
    (c.cut-in-len1-up.ensures.segment ∙ ap before_star (take_rest items 1)) (c.cut-in-len1-up.ensures.after ∙ ap from_star (take_rest items 1))
    (sym c.in_default-2.is ∙ c.in_ok-place.ensures) c.loop-items_left.invariant.taken

pub take_star-requires-clause-within : goal.take_star-requires-clause-within
take_star-requires-clause-within c =
    place_of-within c.cut-in-len1-up.result.0.now c.cut-in-len1-up.result.1.now c.loop-items_left.text_left.now c.in-Some.place (sym c.in-Some.is ∙ c.in_ok-place.ensures)

pub loop-items_left-smaller : goal.loop-items_left-smaller
loop-items_left-smaller c =
    let items = c.loop-items_left.items_left.now in
    items_fall items c.cut-in-len1-up.result.1.now c.in-len1-up.len_at_least (c.cut-in-len1-up.ensures.after ∙ ap from_star (take_rest items 1))

pub loop-items_left-preserved : goal.loop-items_left-preserved
loop-items_left-preserved c =
    let items = c.loop-items_left.items_left.now in
    let segment = c.cut-in-len1-up.result.0.now in
    let text = c.loop-items_left.text_left.now in
    let value = c.loop-items_left.value_left.now in
    let after : c.cut-in-len1-up.result.1.now ≡ from_star (drop 1 items) = c.cut-in-len1-up.ensures.after ∙ ap from_star (take_rest items 1) in
    record {
      starred = rw after (from_star-starred (drop 1 items));
      as_long = both_shorter text value c.in_ok-left.left.0.now c.in_ok-left.left.1.now (length segment) c.in-Some.place c.loop-items_left.invariant.as_long c.in_ok-left.ensures.text c.in_ok-left.ensures.value;
      taken = star_passed items segment c.cut-in-len1-up.result.1.now text value c.in_ok-left.left.0.now c.in_ok-left.left.1.now c.in-Some.place (texts_of c.loop-items_left.texts.items) _ _
          c.loop-items_left.invariant.starred c.in-len1-up.len_at_least (c.cut-in-len1-up.ensures.segment ∙ ap before_star (take_rest items 1)) after
          (sym c.in-Some.is ∙ c.in_ok-place.ensures) c.in_ok-left.ensures.taken c.in_ok-left.ensures.text c.in_ok-left.ensures.value c.loop-items_left.invariant.taken;
    }

pub returns-then-is_empty : goal.returns-then-is_empty
returns-then-is_empty c =
    end_passed c.loop-items_left.items_left.now c.loop-items_left.text_left.now c.loop-items_left.value_left.now (texts_of c.loop-items_left.texts.items) _ c.in_default.len_below
    (eqb-true _ _ (sym c.if-is_empty.ensures)) c.loop-items_left.invariant.taken

pub returns : goal.returns
returns c =
    end_failed c.loop-items_left.items_left.now c.loop-items_left.text_left.now c.loop-items_left.value_left.now (texts_of c.loop-items_left.texts.items) _ c.in_default.len_below
    (eqb-false _ _ (sym c.if-is_empty.ensures)) c.loop-items_left.invariant.taken
