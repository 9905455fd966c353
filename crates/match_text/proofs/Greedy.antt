-- The least fit goes from star to star. Each segment after a star stands at its first place, and
-- the last one at the end.
use Rattle.std.proofs.Common.{◌≡◌, ℕ, zero, suc, ◌+◌, ◌<◌, ◌≤◌, Bool, true, false, ◌&&◌, ◌==◌, cond, List, [], ◌∷◌, ◌++◌, length, take, drop, Option, None, Some, refl, sym, ◌∙◌, ap, subst, arith}
use Rattle.std.specs.Option.{option_and_then, option_map, option_or}
use Rattle.std.proofs.lemmas.Bool.{and_parts, eqb-false, eqb-true, false≢true}
use Rattle.std.proofs.lemmas.List.{drop-drop, length-drop}
use Rattle.match_text.specs.Comparator.{octet}
use Rattle.match_text.specs.Wildcard.{least_fit, one_more, star_fit, taken}
use Rattle.match_text.specs.view.Segment.{before_star, begins, captures_of, ends, first_place, from_star, place_of, questions, takes}
use Rattle.match_text.specs.declared.pattern.Item.{Item}
use Rattle.match_text.specs.declared.pattern.Item.TheVariants.{Star, Question, Literal}

-- OPTIONS

abbrev with_length : ℕ → Option (List ℕ) → Option (List ℕ)
with_length n r = option_map (λ lengths. n ∷ lengths) r

abbrev after : {A : Type 0} → List A → Option (List A) → Option (List A)
after front r = option_map (λ rest. front ++ rest) r

after-nil : {A : Type 0} → (r : Option (List A)) → after [] r ≡ r
after-nil None = refl
after-nil (Some x) = refl

cond-and : (a b : Bool) (r : Option (List ℕ)) → cond (a && b) r None ≡ cond a (cond b r None) None
cond-and true b r = refl
cond-and false b r = refl

-- A SEGMENT

-- the lengths of the `?` of a segment
abbrev ones : List Item → List ℕ
ones [] = []
ones (Star ∷ segment) = ones segment
ones (Literal b ∷ segment) = ones segment
ones (Question ∷ segment) = 1 ∷ ones segment

-- the lengths of the first segment's `?`, then the least fit of the items from the first star on
abbrev segment_rest : List Item → List ℕ → Option (List ℕ)
segment_rest items text =
    after (ones (before_star items)) (least_fit octet (from_star items) (drop (length (before_star items)) text))

with_one : (b : Bool) (front : List ℕ) (r : Option (List ℕ)) → with_length 1 (cond b (after front r) None) ≡ cond b (after (1 ∷ front) r) None
with_one false front r = refl
with_one true front None = refl
with_one true front (Some lengths) = refl

-- items fit if the text begins with the first segment, and its rest fits the items from the star on
least_fit-segment : (items : List Item) (text : List ℕ) → least_fit octet items text ≡ cond (begins (before_star items) text) (segment_rest items text) None
unfolding least_fit
least_fit-segment [] text = sym (after-nil (least_fit octet [] text))
least_fit-segment (Star ∷ items) text = sym (after-nil (least_fit octet (Star ∷ items) text))
least_fit-segment (Literal b ∷ items) [] = refl
least_fit-segment (Literal b ∷ items) (x ∷ text) =
    ap (λ r. cond (x == b) r None) (least_fit-segment items text) ∙ sym (cond-and (x == b) (begins (before_star items) text) (segment_rest items text))
least_fit-segment (Question ∷ items) [] = refl
least_fit-segment (Question ∷ items) (x ∷ text) =
    ap (with_length 1) (least_fit-segment items text)
    ∙ with_one (begins (before_star items) text) (ones (before_star items)) (least_fit octet (from_star items) (drop (length (before_star items)) text))

-- A STAR

star_fit-tail : (r : List ℕ → Option (List ℕ)) (x : ℕ) (text : List ℕ) (a b : Option (List ℕ)) → option_or (with_length 0 a) (option_map one_more b) ≡ None → b ≡ None
star_fit-tail r x text None None is = refl
star_fit-tail r x text None (Some lengths) is = cc
star_fit-tail r x text (Some found) b is = cc

-- a star that fits nowhere fits nowhere further on
star_fit-drop : (r : List ℕ → Option (List ℕ)) (m : ℕ) (text : List ℕ) → star_fit r text ≡ None → star_fit r (drop m text) ≡ None
star_fit-drop r zero text is = is
star_fit-drop r (suc m) [] is = is
star_fit-drop r (suc m) (x ∷ text) is = star_fit-drop r m text (star_fit-tail r x text (r (x ∷ text)) (star_fit r text) is)

-- the least fit if the star takes the octets up to a place
abbrev placed : (List ℕ → Option (List ℕ)) → List ℕ → Option ℕ → Option (List ℕ)
placed rest text place = option_and_then (λ p. with_length p (rest (drop p text))) place

placed-suc : (rest : List ℕ → Option (List ℕ)) (x p : ℕ) (text : List ℕ) (r : Option (List ℕ)) → r ≡ rest (drop p text) → option_map one_more (with_length p r) ≡ with_length (suc p) r
placed-suc rest x p text None is = refl
placed-suc rest x p text (Some lengths) is = refl

placed-further : (rest : List ℕ → Option (List ℕ)) (x : ℕ) (text : List ℕ) (place : Option ℕ) → option_map one_more (placed rest text place) ≡ placed rest (x ∷ text) (option_map suc place)
placed-further rest x text None = refl
placed-further rest x text (Some p) = placed-suc rest x p text (rest (drop p text)) refl

placed-none : (rest : List ℕ → Option (List ℕ)) (text : List ℕ) (place : Option ℕ) → ((p : ℕ) → rest (drop p text) ≡ None) → option_map one_more (placed rest text place) ≡ None
placed-none rest text None nowhere = refl
placed-none rest text (Some p) nowhere = ap (λ r. option_map one_more (with_length p r)) (nowhere p)

here_or_further : (rest : List ℕ → Option (List ℕ)) (x : ℕ) (text : List ℕ) (place : Option ℕ) (found : Option (List ℕ)) → (found ≡ None → (p : ℕ) → rest (drop p text) ≡ None) → option_or (with_length 0 found) (option_map one_more (placed rest text place)) ≡ with_length 0 found
here_or_further rest x text place (Some lengths) settled = refl
here_or_further rest x text place None settled = placed-none rest text place (settled refl)

star_step : (rest : List ℕ → Option (List ℕ)) (x : ℕ) (text : List ℕ) (place : Option ℕ) (b : Bool) → (b ≡ true → rest (x ∷ text) ≡ None → (p : ℕ) → rest (drop p text) ≡ None) → option_or (with_length 0 (cond b (rest (x ∷ text)) None)) (option_map one_more (placed rest text place)) ≡ placed rest (x ∷ text) (cond b (Some 0) (option_map suc place))
star_step rest x text place false settled = placed-further rest x text place
star_step rest x text place true settled = here_or_further rest x text place (rest (x ∷ text)) (settled refl)

star_end : (rest : List ℕ → Option (List ℕ)) (b : Bool) → with_length 0 (cond b (rest []) None) ≡ placed rest [] (cond b (Some 0) None)
star_end rest false = refl
star_end rest true = refl

-- A star takes up to the first place from which the test passes. This needs that a rest that
-- doesn't fit at such a place fits nowhere further on.
star_fit-first : (r rest : List ℕ → Option (List ℕ)) (here : List ℕ → Bool) → ((text : List ℕ) → r text ≡ cond (here text) (rest text) None) → ((text : List ℕ) (p : ℕ) → here text ≡ true → rest text ≡ None → rest (drop p text) ≡ None) → (text : List ℕ) → star_fit r text ≡ placed rest text (first_place here text)
star_fit-first r rest here is settled [] = ap (with_length 0) (is []) ∙ star_end rest (here [])
star_fit-first r rest here is settled (x ∷ text) =
    ap (λ found. option_or (with_length 0 found) (option_map one_more (star_fit r text))) (is (x ∷ text))
    ∙ ap (λ found. option_or (with_length 0 (cond (here (x ∷ text)) (rest (x ∷ text)) None)) (option_map one_more found)) (star_fit-first r rest here is settled text)
    ∙ star_step rest x text (first_place here text) (here (x ∷ text)) (λ stands none p. settled (x ∷ text) (suc p) stands none)

-- SEGMENTS AFTER A STAR

-- the lengths of the `?` of a segment of n items, then the least fit of the items after it
abbrev rest_of : (front : List ℕ) (n : ℕ) → List Item → List ℕ → Option (List ℕ)
rest_of front n items text = after front (least_fit octet items (drop n text))

-- there are no items, or the first is a star
abbrev pub IsStarred : List Item → Type 0
IsStarred [] = Unit {0}
IsStarred (Star ∷ items) = Unit {0}
IsStarred (Question ∷ items) = ⊥
IsStarred (Literal b ∷ items) = ⊥

pub from_star-starred : (items : List Item) → IsStarred (from_star items)
from_star-starred [] = tt
from_star-starred (Star ∷ items) = tt
from_star-starred (Question ∷ items) = from_star-starred items
from_star-starred (Literal b ∷ items) = from_star-starred items

after-none : (front : List ℕ) (r : Option (List ℕ)) → after front r ≡ None → r ≡ None
after-none front None is = refl
after-none front (Some lengths) is = cc

drop_swap : (m n : ℕ) (xs : List ℕ) → drop m (drop n xs) ≡ drop n (drop m xs)
drop_swap m n xs =
    let swapped : n + m ≡ m + n = omega arith in
    drop-drop m n xs ∙ ap (λ k. drop k xs) swapped ∙ sym (drop-drop n m xs)

least_fit-star-drop : (items : List Item) (m : ℕ) (text : List ℕ) → least_fit octet (Star ∷ items) text ≡ None → least_fit octet (Star ∷ items) (drop m text) ≡ None
unfolding least_fit
least_fit-star-drop items m text is = star_fit-drop (least_fit octet items) m text is

-- after a segment, a star that fits nowhere fits nowhere further on
star_settled : (front : List ℕ) (n : ℕ) (items : List Item) (text : List ℕ) (p : ℕ) → rest_of front n (Star ∷ items) text ≡ None → rest_of front n (Star ∷ items) (drop p text) ≡ None
star_settled front n items text p is = ap (after front)
    (ap (least_fit octet (Star ∷ items)) (drop_swap n p text)
    ∙ least_fit-star-drop items p (drop n text) (after-none front _ is))

pub begins-within : (segment : List Item) (text : List ℕ) → begins segment text ≡ true → length segment ≤ length text
begins-within [] text is = omega arith
begins-within (item ∷ segment) [] is = absurd (false≢true is)
begins-within (item ∷ segment) (x ∷ text) is = let rest = begins-within segment text (and_parts (takes item x) (begins segment text) is).1 in omega arith

nothing_left : (front : List ℕ) (text : List ℕ) → length text ≡ 0 → after front (least_fit octet [] text) ≡ None → ⊥
unfolding least_fit
nothing_left front [] none is = cc
nothing_left front (x ∷ text) none is = omega arith

something_left : (front : List ℕ) (text : List ℕ) → 0 < length text → after front (least_fit octet [] text) ≡ None
unfolding least_fit
something_left front [] some = absurd (omega arith)
something_left front (x ∷ text) some = refl

last_begins : (front : List ℕ) (segment : List Item) (text : List ℕ) (same b : Bool) → (length segment == length text) ≡ same → begins segment text ≡ b → cond b (rest_of front (length segment) [] text) None ≡ cond (same && b) (rest_of front (length segment) [] text) None
last_begins front segment text true b at is = refl
last_begins front segment text false false at is = refl
last_begins front segment text false true at is =
    let within = begins-within segment text is in
    let other = eqb-false (length segment) (length text) at in
    let len = length-drop (length segment) text in
    something_left front (drop (length segment) text) (omega arith)

last_settled : (front : List ℕ) (segment : List Item) (text : List ℕ) (p : ℕ) → ends segment text ≡ true → rest_of front (length segment) [] text ≡ None → rest_of front (length segment) [] (drop p text) ≡ None
last_settled front segment text p stands is =
    let same = eqb-true (length segment) (length text) (and_parts _ _ stands).0 in
    let len = length-drop (length segment) text in
    absurd (nothing_left front (drop (length segment) text) (omega arith) is)

-- a star takes up to the place of the segment after it
star_fit-place : (r : List ℕ → Option (List ℕ)) (front : List ℕ) (segment after : List Item) → IsStarred after → ((text : List ℕ) → r text ≡ cond (begins segment text) (rest_of front (length segment) after text) None) → (text : List ℕ) → star_fit r text ≡ placed (rest_of front (length segment) after) text (place_of segment after text)
star_fit-place r front segment [] starred is text = star_fit-first r (rest_of front (length segment) []) (ends segment)
    (λ t. is t ∙ last_begins front segment t (length segment == length t) (begins segment t) refl refl)
    (last_settled front segment) text
star_fit-place r front segment (Star ∷ items) starred is text = star_fit-first r (rest_of front (length segment) (Star ∷ items)) (begins segment) is
    (λ t p stands none. star_settled front (length segment) items t p none) text
star_fit-place r front segment (Question ∷ items) starred is text = absurd starred
star_fit-place r front segment (Literal b ∷ items) starred is text = absurd starred

least_fit-star : (items : List Item) (text : List ℕ) → least_fit octet (Star ∷ items) text ≡ placed (segment_rest items) text (place_of (before_star items) (from_star items) text)
unfolding least_fit
least_fit-star items text =
    star_fit-place (least_fit octet items) (ones (before_star items)) (before_star items) (from_star items) (from_star-starred items) (least_fit-segment items) text

-- CAPTURES

drop_one : (n : ℕ) (xs : List ℕ) → drop n (drop 1 xs) ≡ drop (suc n) xs
drop_one zero [] = refl
drop_one (suc n) [] = refl
drop_one n (x ∷ xs) = refl

taken-segment : (items : List Item) (lengths value : List ℕ) → taken items (ones (before_star items) ++ lengths) value ≡ questions (before_star items) value ++ taken (from_star items) lengths (drop (length (before_star items)) value)
taken-segment [] lengths value = refl
taken-segment (Star ∷ items) lengths value = refl
taken-segment (Literal b ∷ items) lengths value =
    taken-segment items lengths (drop 1 value)
    ∙ ap (λ rest. questions (before_star items) (drop 1 value) ++ taken (from_star items) lengths rest) (drop_one (length (before_star items)) value)
taken-segment (Question ∷ items) lengths value =
    ap (λ texts. take 1 value ∷ texts) (taken-segment items lengths (drop 1 value))
    ∙ ap (λ rest. take 1 value ∷ (questions (before_star items) (drop 1 value) ++ taken (from_star items) lengths rest)) (drop_one (length (before_star items)) value)

captured-segment : (items : List Item) (value : List ℕ) (r : Option (List ℕ)) → option_map (λ lengths. taken items lengths value) (after (ones (before_star items)) r) ≡ after (questions (before_star items) value) (option_map (λ lengths. taken (from_star items) lengths (drop (length (before_star items)) value)) r)
captured-segment items value None = refl
captured-segment items value (Some lengths) = ap Some (taken-segment items lengths value)

map_cond : (f : List ℕ → List (List ℕ)) (b : Bool) (r : Option (List ℕ)) → option_map f (cond b r None) ≡ cond b (option_map f r) None
map_cond f false r = refl
map_cond f true r = refl

-- the captures of items that begin with a segment
pub captures_of-segment : (items : List Item) (text value : List ℕ) → captures_of items text value ≡ cond (begins (before_star items) text) (after (questions (before_star items) value) (captures_of (from_star items) (drop (length (before_star items)) text) (drop (length (before_star items)) value))) None
unfolding captures_of
captures_of-segment items text value =
    ap (option_map (λ lengths. taken items lengths value)) (least_fit-segment items text)
    ∙ map_cond (λ lengths. taken items lengths value) (begins (before_star items) text) (segment_rest items text)
    ∙ ap (λ r. cond (begins (before_star items) text) r None) (captured-segment items value (least_fit octet (from_star items) (drop (length (before_star items)) text)))

-- the texts that a star and the `?` of the segment after it take
abbrev pub step_texts : (segment : List Item) (value : List ℕ) (p : ℕ) → List (List ℕ)
step_texts segment value p = take p value ∷ questions segment (drop p value)

captured-star : (items : List Item) (value : List ℕ) (p : ℕ) (r : Option (List ℕ)) → option_map (λ lengths. taken (Star ∷ items) lengths value) (with_length p (after (ones (before_star items)) r)) ≡ after (step_texts (before_star items) value p) (option_map (λ lengths. taken (from_star items) lengths (drop (length (before_star items)) (drop p value))) r)
captured-star items value p None = refl
captured-star items value p (Some lengths) = ap (λ texts. Some (take p value ∷ texts)) (taken-segment items lengths (drop p value))

pub captures_of-star : (items : List Item) (text value : List ℕ) (p : ℕ) → Some p ≡ place_of (before_star items) (from_star items) text → captures_of (Star ∷ items) text value ≡ after (step_texts (before_star items) value p) (captures_of (from_star items) (drop (length (before_star items)) (drop p text)) (drop (length (before_star items)) (drop p value)))
unfolding captures_of
captures_of-star items text value p at =
    ap (option_map (λ lengths. taken (Star ∷ items) lengths value)) (least_fit-star items text ∙ ap (placed (segment_rest items) text) (sym at))
    ∙ captured-star items value p (least_fit octet (from_star items) (drop (length (before_star items)) (drop p text)))

pub captures_of-nowhere : (items : List Item) (text value : List ℕ) → None ≡ place_of (before_star items) (from_star items) text → captures_of (Star ∷ items) text value ≡ None
unfolding captures_of
captures_of-nowhere items text value at =
    ap (option_map (λ lengths. taken (Star ∷ items) lengths value)) (least_fit-star items text ∙ ap (placed (segment_rest items) text) (sym at))

-- PLACES

-- a place within the text from which the test passes
abbrev PassesAt : (List ℕ → Bool) → List ℕ → ℕ → Type 0
PassesAt here text p = (p ≤ length text) × (here (drop p text) ≡ true)

passes_first : (here : List ℕ → Bool) (text : List ℕ) (p : ℕ) → here text ≡ true → 0 ≡ p → PassesAt here text p
passes_first here text p at zero_place = subst (PassesAt here text) zero_place (omega arith, at)

passes_at_end : (here : List ℕ → Bool) (p : ℕ) (b : Bool) → here [] ≡ b → cond b (Some 0) None ≡ Some p → PassesAt here [] p
passes_at_end here p false at is = cc
passes_at_end here p true at is = let zero_place : 0 ≡ p = cc in passes_first here [] p at zero_place

passes_further : (here : List ℕ → Bool) (x : ℕ) (text : List ℕ) (p : ℕ) (b : Bool) (place : Option ℕ) → here (x ∷ text) ≡ b → ((q : ℕ) → place ≡ Some q → PassesAt here text q) → cond b (Some 0) (option_map suc place) ≡ Some p → PassesAt here (x ∷ text) p
passes_further here x text p true place at later is = let zero_place : 0 ≡ p = cc in passes_first here (x ∷ text) p at zero_place
passes_further here x text p false None at later is = cc
passes_further here x text p false (Some q) at later is =
    let next : suc q ≡ p = cc in
    let found = later q refl in
    subst (PassesAt here (x ∷ text)) next (omega (arith, found.0), found.1)

first_place-passes : (here : List ℕ → Bool) (text : List ℕ) (p : ℕ) → first_place here text ≡ Some p → PassesAt here text p
first_place-passes here [] p is = passes_at_end here p (here []) refl is
first_place-passes here (x ∷ text) p is =
    passes_further here x text p (here (x ∷ text)) (first_place here text) refl (first_place-passes here text) is

begins_at : (segment : List Item) (text : List ℕ) (p : ℕ) → p ≤ length text → begins segment (drop p text) ≡ true → p + length segment ≤ length text
begins_at segment text p within at =
    let some = begins-within segment (drop p text) at in
    let len = length-drop p text in
    omega arith

-- a segment stands within the text
pub place_of-within : (segment after : List Item) (text : List ℕ) (p : ℕ) → Some p ≡ place_of segment after text → p + length segment ≤ length text
place_of-within segment [] text p is =
    let found = first_place-passes (ends segment) text p (sym is) in
    begins_at segment text p found.0 (and_parts _ _ found.1).1
place_of-within segment (item ∷ after) text p is =
    let found = first_place-passes (begins segment) text p (sym is) in
    begins_at segment text p found.0 found.1

first_at : (here : List ℕ → Bool) (text : List ℕ) (place : Option ℕ) (b : Bool) → here text ≡ b → b ≡ true → cond b (Some 0) place ≡ Some 0
first_at here text place true at is = refl
first_at here text place false at is = cc

first_later : (place : Option ℕ) (p : ℕ) (b : Bool) → b ≡ false → place ≡ Some p → cond b (Some 0) (option_map suc place) ≡ Some (suc p)
first_later place p false at is = ap (option_map suc) is
first_later place p true at is = cc

-- the first place is the one from which the test passes, if it never passes before
pub first_place-at : (here : List ℕ → Bool) (text : List ℕ) (p : ℕ) → p ≤ length text → here (drop p text) ≡ true → ((k : ℕ) → k < p → here (drop k text) ≡ false) → first_place here text ≡ Some p
first_place-at here [] zero within at before = first_at here [] None (here []) refl at
first_place-at here (x ∷ text) zero within at before = first_at here (x ∷ text) (option_map suc (first_place here text)) (here (x ∷ text)) refl at
first_place-at here [] (suc p) within at before = absurd (omega arith)
first_place-at here (x ∷ text) (suc p) within at before = first_later (first_place here text) p (here (x ∷ text)) (before 0 (omega arith))
    (first_place-at here text p (omega arith) at (λ k below. before (suc k) (omega arith)))

none_at_end : (b : Bool) → b ≡ false → cond {A = Option ℕ} b (Some 0) None ≡ None
none_at_end false at = refl
none_at_end true at = cc

none_later : (place : Option ℕ) (b : Bool) → b ≡ false → place ≡ None → cond b (Some 0) (option_map suc place) ≡ None
none_later place false at is = ap (option_map suc) is
none_later place true at is = cc

pub first_place-none : (here : List ℕ → Bool) (text : List ℕ) → ((k : ℕ) → k ≤ length text → here (drop k text) ≡ false) → first_place here text ≡ None
first_place-none here [] nowhere = none_at_end (here []) (nowhere 0 (omega arith))
first_place-none here (x ∷ text) nowhere = none_later (first_place here text) (here (x ∷ text)) (nowhere 0 (omega arith))
    (first_place-none here text (λ k within. nowhere (suc k) (omega arith)))
