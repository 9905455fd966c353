use Rattle.std.proofs.Common.{◌≡◌, ◌∷◌, ◌++◌, length}
use Rattle.std.specs.Option.{option_map}
use Rattle.match_text.specs.view.Segment.{captures_of, texts_of}
use Rattle.match_text.proofs.Greedy.{IsStarred}
use Rattle.match_text.proofs.wildcards.captured_texts.Given as goal

-- No items are left, or a star is next. The rest of the text is as long as the rest of the value.
-- All texts are the whole value and those that all items take. They are the texts so far, and after
-- them those that the items left take.
abbrev pub invariant-loop-items_left : goal.invariant-loop-items_left
invariant-loop-items_left l = record {
  starred : IsStarred l.items_left;
  as_long : length l.text_left ≡ length l.value_left;
  taken : option_map (λ texts. texts_of l.texts.items ++ texts) (captures_of l.items_left l.text_left l.value_left) ≡ option_map (λ texts. l.value ∷ texts) (captures_of l.items l.text l.value);
}

abbrev pub decreases-loop-items_left : goal.decreases-loop-items_left
decreases-loop-items_left l = length l.items_left
