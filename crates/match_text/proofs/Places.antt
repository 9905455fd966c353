-- Where a key stands in a value.
use Rattle.std.proofs.Common.{◌≡◌, ◌↔◌, ℕ, ◌+◌, ◌-◌, ◌<◌, ◌≤◌, IsTrue, true, false, ◌==◌, List, length, slice_index, slice_range, drop, Option, None, Some, is_some, refl, sym, ap, ◌∙◌, ⊎_elim, arith}
use Rattle.std.proofs.lemmas.Bool.{false≢true, eq-eqb, cases_lt}
use Rattle.std.proofs.lemmas.List.{length-drop, length-take, get_or-take, get_or-drop, take_rest}
use Rattle.memchr.specs.Find.{FindsNeedle, Nowhere, OccursAt}
use Rattle.match_text.specs.Comparator.{IsPart, Same, octet}

-- equal lists are the same octet for octet
pub Same-octet : (a b : List ℕ) → a ≡ b → Same octet a b
Same-octet a b equal = record {
  equal_lengths = ap length equal;
  equal_octets = λ i below. ap (λ (xs : List ℕ). slice_index xs i) equal;
}

-- the length of a slice, and its octet at k
pub length-slice : (xs : List ℕ) (i j : ℕ) → i ≤ j → j ≤ length xs → length (slice_range xs i j) ≡ j - i
length-slice xs i j ordered within = grind (arith, length-take {A = ℕ}, length-drop {A = ℕ})

at-slice : (xs : List ℕ) (i j k : ℕ) → k < j - i → slice_index (slice_range xs i j) k ≡ slice_index xs (i + k)
at-slice xs i j k below = get_or-take (j - i) (drop i xs) k 0 below ∙ get_or-drop i xs k 0

-- the slice that is the same as the key is as long as the key
pub part_len : (fold : ℕ → ℕ) (value key : List ℕ) (p : IsPart fold value key) → p.start + length key ≡ p.end
part_len fold value key p =
    let len = length-slice value p.start p.end p.ordered p.within in
    let same = p.same.equal_lengths in
    let ordered = p.ordered in
    omega arith

pub part_from_occurs : (value key : List ℕ) (k : ℕ) → OccursAt value key k → IsPart octet value key
part_from_occurs value key k occurs =
    let fits = occurs.fits in
    let len : length (slice_range value k (k + length key)) ≡ length key =
    length-slice value k (k + length key) (omega arith) fits ∙ omega arith in
    record {
      start = k;
      end = k + length key;
      ordered = omega arith;
      within = fits;
      same = record {
        equal_lengths = len;
        equal_octets = λ i below.
            let short : i < length key = omega arith in
            at-slice value k (k + length key) i (omega arith) ∙ occurs.reads i short;
      };
    }

pub occurs_from_part : (value key : List ℕ) (p : IsPart octet value key) → OccursAt value key p.start
occurs_from_part value key p =
    let long = part_len octet value key p in
    let within = p.within in
    let same = p.same.equal_lengths in
    record {
      fits = omega arith;
      reads = λ j below.
          sym (at-slice value p.start p.end j (omega arith)) ∙ p.same.equal_octets j (omega arith);
    }

-- a search for the key's octets says whether the key is part of the value
pub IsPart-found : (value key : List ℕ) (r : Option ℕ) → FindsNeedle value key 0 r → IsTrue (is_some r) ↔ IsPart octet value key
IsPart-found value key None nowhere = (
  λ is. absurd (false≢true is),
  λ p.
      let at = occurs_from_part value key p in
      let fits = at.fits in
      absurd (nowhere p.start (omega arith) (omega arith) at),
)
IsPart-found value key (Some k) found = (λ _. part_from_occurs value key k found.1, λ _. refl)

-- the key stands at no place below `past`
abbrev pub StandsNowhere : (ℕ → ℕ) → List ℕ → List ℕ → ℕ → Type 0
StandsNowhere fold value key past =
    (k : ℕ) → k < past → Same fold (slice_range value k (k + length key)) key → ⊥

-- if no octet ahead is equal to the key's first, the key doesn't stand there either
pub stands_nowhere_ahead : (fold : ℕ → ℕ) (value key : List ℕ) (from ahead : ℕ) → 0 < length key → StandsNowhere fold value key from → Nowhere (λ k. (fold (slice_index (slice_range value from (length value)) k) == fold (slice_index key 0)) ≡ true) 0 ahead → StandsNowhere fold value key (from + ahead)
stands_nowhere_ahead fold value key from ahead some earlier nowhere k below same = ⊎_elim
    (λ (lt : k < from). earlier k lt same)
    (λ (le : from ≤ k).
    let at : fold (slice_index (slice_range value from (length value)) (k - from)) ≡ fold (slice_index key 0) =
    ap (λ (rest : List ℕ). fold (slice_index rest (k - from))) (take_rest value from)
    ∙ ap fold (get_or-drop from value (k - from) 0) ∙ ap (λ i. fold (slice_index value i)) (omega arith)
    ∙ sym (ap fold (at-slice value k (k + length key) 0 (omega arith)))
    ∙ same.equal_octets 0 (omega (arith, same.equal_lengths)) in
    nowhere (k - from) (omega arith) (omega arith) (eq-eqb _ _ at))
    (cases_lt k from)

-- a key that stands at no place early enough is no part of the value
pub IsPart-none : (fold : ℕ → ℕ) (value key : List ℕ) (past : ℕ) → length value < past + length key → StandsNowhere fold value key past → IsTrue false ↔ IsPart fold value key
IsPart-none fold value key past late nowhere = (
  λ is. absurd (false≢true is),
  λ p.
      let long = part_len fold value key p in
      let within = p.within in
      absurd (nowhere p.start (omega arith) (rw long p.same)),
)
