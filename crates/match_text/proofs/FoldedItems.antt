-- A least fit over folded items and a folded value.
use Rattle.std.proofs.Common.{◌≡◌, ℕ, ◌==◌, cond, List, [], ◌∷◌, map, take, drop, Option, None, Some, refl, ◌∙◌, ap}
use Rattle.std.specs.Option.{option_map, option_or}
use Rattle.match_text.specs.Comparator.{octet}
use Rattle.match_text.specs.Wildcard.{items_of, least_fit, matched, one_more, star_fit, taken}
use Rattle.match_text.specs.view.Segment.{captures_of, folded_item}
use Rattle.match_text.specs.declared.pattern.Item.{Item}
use Rattle.match_text.specs.declared.pattern.Item.TheVariants.{Star, Question, Literal}

module _ (fold : ℕ → ℕ) where
  star_fit-map : (r s : List ℕ → Option (List ℕ)) → ((value : List ℕ) → r (map fold value) ≡ s value) → (value : List ℕ) → star_fit r (map fold value) ≡ star_fit s value
  star_fit-map r s alike [] = ap (option_map (λ lengths. 0 ∷ lengths)) (alike [])
  star_fit-map r s alike (x ∷ value) =
      ap (λ found. option_or (option_map (λ lengths. 0 ∷ lengths) found) (option_map one_more (star_fit r (map fold value)))) (alike (x ∷ value))
      ∙ ap (λ found. option_or (option_map (λ lengths. 0 ∷ lengths) (s (x ∷ value))) (option_map one_more found)) (star_fit-map r s alike value)

  least_fit-map : (items : List Item) (value : List ℕ) → least_fit octet (map (folded_item fold) items) (map fold value) ≡ least_fit fold items value
  unfolding least_fit
  least_fit-map [] [] = refl
  least_fit-map [] (x ∷ value) = refl
  least_fit-map (Literal b ∷ items) [] = refl
  least_fit-map (Literal b ∷ items) (x ∷ value) = ap (λ r. cond (fold x == fold b) r None) (least_fit-map items value)
  least_fit-map (Question ∷ items) [] = refl
  least_fit-map (Question ∷ items) (x ∷ value) = ap (option_map (λ lengths. 1 ∷ lengths)) (least_fit-map items value)
  least_fit-map (Star ∷ items) value =
      star_fit-map (least_fit octet (map (folded_item fold) items)) (least_fit fold items) (least_fit-map items) value

  -- folding the items doesn't change the texts that their wildcards take
  taken-map : (items : List Item) (lengths value : List ℕ) → taken (map (folded_item fold) items) lengths value ≡ taken items lengths value
  taken-map [] lengths value = refl
  taken-map (Literal b ∷ items) lengths value = taken-map items lengths (drop 1 value)
  taken-map (Question ∷ items) [] value = refl
  taken-map (Question ∷ items) (n ∷ lengths) value = ap (λ texts. take n value ∷ texts) (taken-map items lengths (drop n value))
  taken-map (Star ∷ items) [] value = refl
  taken-map (Star ∷ items) (n ∷ lengths) value = ap (λ texts. take n value ∷ texts) (taken-map items lengths (drop n value))

  whole_before : (items : List Item) (value : List ℕ) (r : Option (List ℕ)) → option_map (λ texts. value ∷ texts) (option_map (λ lengths. taken (map (folded_item fold) items) lengths value) r) ≡ option_map (λ lengths. value ∷ taken items lengths value) r
  whole_before items value None = refl
  whole_before items value (Some lengths) = ap (λ texts. Some (value ∷ texts)) (taken-map items lengths value)

  pub folded_captures : (value pattern : List ℕ) → option_map (λ texts. value ∷ texts) (captures_of (map (folded_item fold) (items_of pattern)) (map fold value) value) ≡ matched fold value pattern
  unfolding captures_of matched
  folded_captures value pattern =
      whole_before (items_of pattern) value (least_fit octet (map (folded_item fold) (items_of pattern)) (map fold value))
      ∙ ap (option_map (λ lengths. value ∷ taken (items_of pattern) lengths value)) (least_fit-map (items_of pattern) value)

  pub matched_from : (value pattern : List ℕ) (items : List Item) (text : List ℕ) → items ≡ map (folded_item fold) (items_of pattern) → text ≡ map fold value → option_map (λ texts. value ∷ texts) (captures_of items text value) ≡ matched fold value pattern
  matched_from value pattern items text items_are text_is = rw (items_are, text_is) (folded_captures value pattern)
