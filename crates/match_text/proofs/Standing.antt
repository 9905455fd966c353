-- Where a segment stands in a text: at the end, at a needle, at no place so far.
use Rattle.std.proofs.Common.{◌≡◌, ◌≢◌, ℕ, zero, suc, ◌-◌, ◌<◌, ◌≤◌, Bool, true, false, ◌&&◌, ◌==◌, List, [], ◌∷◌, length, slice_index, drop, Option, None, Some, refl, sym, ◌∙◌, ap, ⊎_elim, arith}
use Rattle.std.proofs.lemmas.Bool.{and_from, and_parts, cases_eq, eqb-true, eq-eqb, false≢true, ne_eqb}
use Rattle.std.proofs.lemmas.List.{get_or-drop, length-drop, length-map}
use Rattle.memchr.specs.Find.{FindsNeedle, OccursAt}
use Rattle.match_text.specs.view.Segment.{begins, ends, first_place, literals}
use Rattle.match_text.specs.declared.pattern.Item.{Item}
use Rattle.match_text.specs.declared.pattern.Item.TheVariants.{Literal}
use Rattle.match_text.proofs.Greedy.{begins-within, first_place-at, first_place-none}

-- THE END OF A TEXT

-- no segment with items stands in an empty text
pub begins-ended : (segment : List Item) (text : List ℕ) → 0 < length segment → length text ≡ 0 → begins segment text ≡ false
begins-ended [] text some ended = absurd (omega arith)
begins-ended (item ∷ segment) [] some ended = refl
begins-ended (item ∷ segment) (x ∷ text) some ended = absurd (omega arith)

ends-other : (segment : List Item) (text : List ℕ) → length segment ≢ length text → ends segment text ≡ false
ends-other segment text other = ap (λ b. b && begins segment text) (ne_eqb (length segment) (length text) other)

ends-not : (segment : List Item) (text : List ℕ) → begins segment text ≡ false → ends segment text ≡ false
ends-not segment text is = and_false (length segment == length text) (begins segment text) is
  where
    and_false : (a b : Bool) → b ≡ false → (a && b) ≡ false
    and_false true b is = is
    and_false false b is = refl

pub end_too_long : (segment : List Item) (text : List ℕ) → length text < length segment → None ≡ first_place (ends segment) text
end_too_long segment text long = sym (first_place-none (ends segment) text (λ k within.
    let len = length-drop k text in
    ends-other segment (drop k text) (λ same. omega arith)))

pub end_found : (segment : List Item) (text : List ℕ) → length segment ≤ length text → begins segment (drop (length text - length segment) text) ≡ true → Some (length text - length segment) ≡ first_place (ends segment) text
end_found segment text short at =
    let len = length-drop (length text - length segment) text in
    sym (first_place-at (ends segment) text (length text - length segment) (omega arith)
    (and_from _ _ (eq-eqb _ _ (omega arith)) at)
    (λ k below.
    let longer = length-drop k text in
    ends-other segment (drop k text) (λ same. omega arith)))

pub end_missed : (segment : List Item) (text : List ℕ) → length segment ≤ length text → begins segment (drop (length text - length segment) text) ≡ false → None ≡ first_place (ends segment) text
end_missed segment text short at = sym (first_place-none (ends segment) text (λ k within.
    let len = length-drop k text in
    ⊎_elim
    (λ (here : k ≡ length text - length segment). ends-not segment (drop k text) (ap (λ place. begins segment (drop place text)) here ∙ at))
    (λ (other : k ≢ length text - length segment). ends-other segment (drop k text) (λ same. other (omega arith)))
    (cases_eq k (length text - length segment))))

-- EACH PLACE IN TURN

pub tried_all : (segment : List Item) (text : List ℕ) (place : ℕ) → place ≡ length text → ((k : ℕ) → k < place → begins segment (drop k text) ≡ false) → begins segment (drop place text) ≡ false → None ≡ first_place (begins segment) text
tried_all segment text place ended before here = sym (first_place-none (begins segment) text (λ k within.
    ⊎_elim
    (λ (last : k ≡ place). ap (λ p. begins segment (drop p text)) last ∙ here)
    (λ (other : k ≢ place). before k (omega arith))
    (cases_eq k place)))

-- OCTETS ALONE

reads_from : (octets text : List ℕ) → begins (literals octets) text ≡ true → (j : ℕ) → j < length octets → slice_index text j ≡ slice_index octets j
reads_from [] text is j below = absurd (omega arith)
reads_from (b ∷ octets) [] is j below = absurd (false≢true is)
reads_from (b ∷ octets) (x ∷ text) is zero below = eqb-true x b (and_parts (x == b) (begins (literals octets) text) is).0
reads_from (b ∷ octets) (x ∷ text) is (suc j) below = reads_from octets text (and_parts (x == b) (begins (literals octets) text) is).1 j (omega arith)

begins_by : (octets text : List ℕ) → length octets ≤ length text → ((j : ℕ) → j < length octets → slice_index text j ≡ slice_index octets j) → begins (literals octets) text ≡ true
begins_by [] text short reads = refl
begins_by (b ∷ octets) [] short reads = absurd (omega arith)
begins_by (b ∷ octets) (x ∷ text) short reads =
    and_from _ _ (eq-eqb x b (reads 0 (omega arith))) (begins_by octets text (omega arith) (λ j below. reads (suc j) (omega arith)))

begins_where_occurs : (octets text : List ℕ) (k : ℕ) → OccursAt text octets k → begins (literals octets) (drop k text) ≡ true
begins_where_occurs octets text k occurs =
    let fits = occurs.fits in
    let len = length-drop k text in
    begins_by octets (drop k text) (omega arith) (λ j below. get_or-drop k text j 0 ∙ occurs.reads j below)

occurs_where_begins : (octets text : List ℕ) (k : ℕ) → k ≤ length text → begins (literals octets) (drop k text) ≡ true → OccursAt text octets k
occurs_where_begins octets text k within is =
    let some = begins-within (literals octets) (drop k text) is in
    let len = length-drop k text in
    let as_many = length-map octets Literal in
    record {
      fits = omega arith;
      reads = λ j below. sym (get_or-drop k text j 0) ∙ reads_from octets (drop k text) is j below;
    }

not_true : (b : Bool) → (b ≡ true → ⊥) → b ≡ false
not_true true never = absurd (never refl)
not_true false never = refl

-- a search for the octets finds the first place of the segment
needle_place : (octets text : List ℕ) (r : Option ℕ) → FindsNeedle text octets 0 r → r ≡ first_place (begins (literals octets)) text
needle_place octets text None nowhere = sym (first_place-none (begins (literals octets)) text (λ k within.
    not_true _ (λ is. nowhere k (omega arith) (omega arith) (occurs_where_begins octets text k within is))))
needle_place octets text (Some p) found =
    let first = found.0 in
    sym (first_place-at (begins (literals octets)) text p (omega arith) (begins_where_occurs octets text p found.1)
    (λ k below. not_true _ (λ is. first.before k (omega arith) below (occurs_where_begins octets text k (omega arith) is))))

pub segment_place : (segment : List Item) (octets text : List ℕ) (r : Option ℕ) → segment ≡ literals octets → FindsNeedle text octets 0 r → r ≡ first_place (begins segment) text
segment_place segment octets text r is found = needle_place octets text r found ∙ ap (λ items. first_place (begins items) text) (sym is)
