-- The tests of equality and of parts are exact.
use Rattle.std.proofs.Common.{◌≡◌, ℕ, true, zero, suc, ◌-◌, ◌<◌, ◌≤◌, ◌⊎◌, inl, inr, ⊎_elim, List, [], ◌∷◌, length, slice_index, slice_range, take, Decides, refl, ap, arith}
use Rattle.std.proofs.lemmas.Bool.{false≢true}
use Rattle.std.proofs.lemmas.Bool.Decides.{Decides-and, Decides-or, Decides-eqb, Decides-like}
use Rattle.std.proofs.lemmas.List.{length-take}
use Rattle.match_text.specs.Comparator.{IsPart, Same, is_part, same}
use Rattle.match_text.proofs.Places.{length-slice}

module _ (fold : ℕ → ℕ) where
  Same-cons : (x y : ℕ) (a b : List ℕ) → fold x ≡ fold y → Same fold a b → (i : ℕ) → i < length (x ∷ a) → fold (slice_index (x ∷ a) i) ≡ fold (slice_index (y ∷ b) i)
  Same-cons x y a b first rest zero below = first
  Same-cons x y a b first rest (suc i) below = rest.equal_octets i (omega arith)

  -- two texts are equal exactly if their first octets and their rests are
  Same-join : (x y : ℕ) (a b : List ℕ) → (fold x ≡ fold y) × Same fold a b → Same fold (x ∷ a) (y ∷ b)
  Same-join x y a b both = record { equal_lengths = ap suc both.1.equal_lengths; equal_octets = Same-cons x y a b both.0 both.1 }

  Same-split : (x y : ℕ) (a b : List ℕ) → Same fold (x ∷ a) (y ∷ b) → (fold x ≡ fold y) × Same fold a b
  Same-split x y a b s = (
    s.equal_octets 0 (omega arith),
    record { equal_lengths = omega (arith, s.equal_lengths); equal_octets = λ i below. s.equal_octets (suc i) (omega arith) },
  )

  pub same-Decides : (a b : List ℕ) → Decides (same fold a b) (Same fold a b)
  same-Decides [] [] = (λ _. record { equal_lengths = refl; equal_octets = λ i below. refl }, λ _. refl)
  same-Decides [] (y ∷ b) = (λ is. absurd (false≢true is), λ s. absurd (omega (arith, s.equal_lengths)))
  same-Decides (x ∷ a) [] = (λ is. absurd (false≢true is), λ s. absurd (omega (arith, s.equal_lengths)))
  same-Decides (x ∷ a) (y ∷ b) = Decides-like _ (Same-join x y a b) (Same-split x y a b) (Decides-and _ _ (Decides-eqb (fold x) (fold y)) (same-Decides a b))

  -- an empty value has only the empty part
  IsPart-empty : (key : List ℕ) → Same fold [] key → IsPart fold [] key
  IsPart-empty key s = record { start = 0; end = 0; ordered = omega arith; within = omega arith; same = s }

  empty-IsPart : (key : List ℕ) → IsPart fold [] key → Same fold [] key
  empty-IsPart key p =
      let len = length-slice [] p.start p.end p.ordered p.within in
      let within = p.within in
      record { equal_lengths = omega (arith, p.same.equal_lengths); equal_octets = λ i below. absurd (omega arith) }

  -- a part of a value stands at the start of the value or in its rest
  IsPart-front : (value key : List ℕ) → Same fold (take (length key) value) key → IsPart fold value key
  IsPart-front value key s =
      let len = length-take (length key) value in
      let none : length key - 0 ≡ length key = omega arith in
      record { start = 0; end = length key; ordered = omega arith; within = omega (arith, s.equal_lengths); same = rw none s }

  IsPart-later : (x : ℕ) (rest key : List ℕ) → IsPart fold rest key → IsPart fold (x ∷ rest) key
  IsPart-later x rest key p =
      let ordered = p.ordered in
      let within = p.within in
      let one : suc p.end - suc p.start ≡ p.end - p.start = omega arith in
      record { start = suc p.start; end = suc p.end; ordered = omega arith; within = omega arith; same = rw one p.same }

  part_by_place : (x : ℕ) (rest key : List ℕ) (start end : ℕ) → start ≤ end → end ≤ length (x ∷ rest) → Same fold (slice_range (x ∷ rest) start end) key → Same fold (take (length key) (x ∷ rest)) key ⊎ IsPart fold rest key
  part_by_place x rest key zero end ordered within s =
      let len = length-slice (x ∷ rest) 0 end ordered within in
      let all : end - 0 ≡ length key = omega (arith, s.equal_lengths) in
      inl (rw all at s)
  part_by_place x rest key (suc start) end ordered within s =
      let one : end - suc start ≡ (end - 1) - start = omega arith in
      inr (record { start = start; end = end - 1; ordered = omega arith; within = omega arith; same = rw one at s })

  pub is_part-Decides : (value key : List ℕ) → Decides (is_part fold value key) (IsPart fold value key)
  is_part-Decides [] key = Decides-like _ (IsPart-empty key) (empty-IsPart key) (same-Decides [] key)
  is_part-Decides (x ∷ rest) key =
      Decides-like _
      (⊎_elim (IsPart-front (x ∷ rest) key) (IsPart-later x rest key))
      (λ p. part_by_place x rest key p.start p.end p.ordered p.within p.same)
      (Decides-or _ _ (same-Decides (take (length key) (x ∷ rest)) key) (is_part-Decides rest key))

  -- the empty key is part of every value
  pub is_part-empty : (value : List ℕ) → is_part fold value [] ≡ true
  is_part-empty [] = refl
  is_part-empty (x ∷ rest) = refl
