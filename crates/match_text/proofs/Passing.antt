-- From segment to segment: the texts so far, and after them those that the items left take.
use Rattle.std.proofs.Common.{◌≡◌, ℕ, ◌<◌, ◌≤◌, true, false, cond, List, [], ◌∷◌, ◌++◌, length, take, drop, Option, None, Some, refl, sym, ◌∙◌, ap, arith}
use Rattle.std.specs.Option.{option_map}
use Rattle.std.proofs.lemmas.List.{append-nil, append_assoc, length-drop}
use Rattle.match_text.specs.Wildcard.{least_fit}
use Rattle.match_text.specs.view.Segment.{before_star, begins, captures_of, from_star, place_of, questions}
use Rattle.match_text.specs.declared.pattern.Item.{Item}
use Rattle.match_text.specs.declared.pattern.Item.TheVariants.{Star, Question, Literal}
use Rattle.match_text.proofs.Greedy.{IsStarred, captures_of-nowhere, captures_of-segment, captures_of-star, step_texts}

abbrev put_before : List (List ℕ) → Option (List (List ℕ)) → Option (List (List ℕ))
put_before old r = option_map (λ texts. old ++ texts) r

put_before-append : (old front : List (List ℕ)) (r : Option (List (List ℕ))) → put_before (old ++ front) r ≡ put_before old (put_before front r)
put_before-append old front None = refl
put_before-append old front (Some texts) = ap Some (append_assoc old front texts)

-- THE FIRST SEGMENT

pub front_missed : (items segment : List Item) (text value : List ℕ) → segment ≡ before_star items → begins segment text ≡ false → None ≡ option_map (λ texts. value ∷ texts) (captures_of items text value)
front_missed items segment text value is missed =
    let at : begins (before_star items) text ≡ false = rw is at missed in
    sym (ap (option_map (λ texts. value ∷ texts)) (captures_of-segment items text value ∙ ap (λ b. cond b (put_before (questions (before_star items) value) (captures_of (from_star items) (drop (length (before_star items)) text) (drop (length (before_star items)) value))) None) at))

pub front_passed : (items segment after : List Item) (text value new_text new_value : List ℕ) (old new : List (List ℕ)) → segment ≡ before_star items → after ≡ from_star items → begins segment text ≡ true → old ≡ value ∷ [] → new ≡ old ++ questions segment value → new_text ≡ drop (length segment) text → new_value ≡ drop (length segment) value → option_map (λ texts. new ++ texts) (captures_of after new_text new_value) ≡ option_map (λ texts. value ∷ texts) (captures_of items text value)
front_passed items segment after text value new_text new_value old new is following stands was now text_is value_is =
    let at : begins (before_star items) text ≡ true = rw is at stands in
    let rest : Option (List (List ℕ)) = captures_of (from_star items) (drop (length (before_star items)) text) (drop (length (before_star items)) value) in
    let texts : new ≡ (value ∷ []) ++ questions (before_star items) value = rw (was, is) at now in
    let left : captures_of after new_text new_value ≡ rest = rw (following, text_is, value_is, is) in
    ap (λ t. put_before t (captures_of after new_text new_value)) texts
    ∙ ap (put_before ((value ∷ []) ++ questions (before_star items) value)) left
    ∙ put_before-append (value ∷ []) (questions (before_star items) value) rest
    ∙ sym (ap (option_map (λ texts. value ∷ texts)) (captures_of-segment items text value ∙ ap (λ b. cond b (put_before (questions (before_star items) value) rest) None) at))

-- A STAR

pub star_nowhere : (items segment after : List Item) (text value : List ℕ) (old : List (List ℕ)) (all : Option (List (List ℕ))) → IsStarred items → 1 ≤ length items → segment ≡ before_star (drop 1 items) → after ≡ from_star (drop 1 items) → None ≡ place_of segment after text → option_map (λ texts. old ++ texts) (captures_of items text value) ≡ all → None ≡ all
star_nowhere [] segment after text value old all starred some is following at kept = absurd (omega arith)
star_nowhere (Question ∷ items) segment after text value old all starred some is following at kept = absurd starred
star_nowhere (Literal b ∷ items) segment after text value old all starred some is following at kept = absurd starred
star_nowhere (Star ∷ items) segment after text value old all starred some is following at kept =
    sym (ap (put_before old) (captures_of-nowhere items text value (rw (is, following) at at))) ∙ kept

pub star_passed : (items segment after : List Item) (text value new_text new_value : List ℕ) (p : ℕ) (old new : List (List ℕ)) (all : Option (List (List ℕ))) → IsStarred items → 1 ≤ length items → segment ≡ before_star (drop 1 items) → after ≡ from_star (drop 1 items) → Some p ≡ place_of segment after text → new ≡ old ++ take p value ∷ questions segment (drop p value) → new_text ≡ drop (length segment) (drop p text) → new_value ≡ drop (length segment) (drop p value) → option_map (λ texts. old ++ texts) (captures_of items text value) ≡ all → option_map (λ texts. new ++ texts) (captures_of after new_text new_value) ≡ all
star_passed [] segment after text value new_text new_value p old new all starred some is following at now text_is value_is kept = absurd (omega arith)
star_passed (Question ∷ items) segment after text value new_text new_value p old new all starred some is following at now text_is value_is kept = absurd starred
star_passed (Literal b ∷ items) segment after text value new_text new_value p old new all starred some is following at now text_is value_is kept = absurd starred
star_passed (Star ∷ items) segment after text value new_text new_value p old new all starred some is following at now text_is value_is kept =
    let rest : Option (List (List ℕ)) = captures_of (from_star items) (drop (length (before_star items)) (drop p text)) (drop (length (before_star items)) (drop p value)) in
    let texts : new ≡ old ++ step_texts (before_star items) value p = rw is at now in
    let left : captures_of after new_text new_value ≡ rest = rw (following, text_is, value_is, is) in
    ap (λ t. put_before t (captures_of after new_text new_value)) texts
    ∙ ap (put_before (old ++ step_texts (before_star items) value p)) left
    ∙ put_before-append old (step_texts (before_star items) value p) rest
    ∙ sym (ap (put_before old) (captures_of-star items text value p (rw (is, following) at at)))
    ∙ kept

pub both_shorter : (text value new_text new_value : List ℕ) (n p : ℕ) → length text ≡ length value → new_text ≡ drop n (drop p text) → new_value ≡ drop n (drop p value) → length new_text ≡ length new_value
both_shorter text value new_text new_value n p same text_is value_is =
    let a = length-drop n (drop p text) in
    let b = length-drop n (drop p value) in
    let d = length-drop p text in
    let e = length-drop p value in
    rw (text_is, value_is) (omega arith)

from_star-length : (items : List Item) → length (from_star items) ≤ length items
from_star-length [] = omega arith
from_star-length (Star ∷ items) = omega arith
from_star-length (Question ∷ items) = omega (arith, from_star-length items)
from_star-length (Literal b ∷ items) = omega (arith, from_star-length items)

pub items_fall : (items after : List Item) → 1 ≤ length items → after ≡ from_star (drop 1 items) → length after < length items
items_fall items after some following =
    let short = from_star-length (drop 1 items) in
    let len = length-drop 1 items in
    rw following (omega arith)

-- THE END

pub end_passed : (items : List Item) (text value : List ℕ) (old : List (List ℕ)) (all : Option (List (List ℕ))) → length items < 1 → length text ≡ 0 → option_map (λ texts. old ++ texts) (captures_of items text value) ≡ all → Some old ≡ all
unfolding captures_of least_fit
end_passed [] [] value old all none empty kept = sym (ap Some (append-nil old)) ∙ kept
end_passed [] (x ∷ text) value old all none empty kept = absurd (omega arith)
end_passed (item ∷ items) text value old all none empty kept = absurd (omega arith)

pub end_failed : (items : List Item) (text value : List ℕ) (old : List (List ℕ)) (all : Option (List (List ℕ))) → length items < 1 → (length text ≡ 0 → ⊥) → option_map (λ texts. old ++ texts) (captures_of items text value) ≡ all → None ≡ all
unfolding captures_of least_fit
end_failed [] [] value old all none some kept = absurd (some refl)
end_failed [] (x ∷ text) value old all none some kept = kept
end_failed (item ∷ items) text value old all none some kept = absurd (omega arith)
