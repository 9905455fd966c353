-- The marks of a value octet by octet.
use Rattle.std.proofs.Common.{◌≡◌, ℕ, ◌+◌, ◌-◌, ◌<◌, Bool, ◌==◌, List, [], ◌∷◌, ◌++◌, length, drop, get_or, inl, inr, refl, sym, ap, ◌∙◌, append_assoc, arith}
use Rattle.std.proofs.lemmas.List.{drop_more, length-drop}
use Rattle.std.proofs.lemmas.Bool.{cases_eq, eq-eqb, ne_eqb}
use Rattle.message_text.specs.Addresses.{mark_at, marks_from, marks_of, surroundings_after}
use Rattle.message_text.specs.declared.marks.AddressMark.{AddressMark}
use Rattle.message_text.specs.declared.marks.Marked.{Marked}
use Rattle.message_text.specs.declared.marks.Surroundings.{Surroundings}

-- an octet with its mark
abbrev pub marked_at : Surroundings → (is_last : Bool) → ℕ → Marked
marked_at spot is_last b = record { octet = b; mark = mark_at spot is_last b; in_angle = spot.in_angle }

-- no octet is left after octet i exactly if the place after it is the end
last_by : (n i len : ℕ) → n ≡ len - (i + 1) → i < len → (n == 0) ≡ (i + 1 == len)
last_by n i len is within =
    elim (cases_eq n 0) [
      | inl none ↦ eq-eqb n 0 none ∙ sym (eq-eqb (i + 1) len (omega arith))
      | inr some ↦ ne_eqb n 0 some ∙ sym (ne_eqb (i + 1) len (λ last. some (omega arith)))
    ]

marks_from-drop : (spot : Surroundings) (xs : List ℕ) (i : ℕ) → i < length xs → marks_from spot (drop i xs) ≡ marked_at spot (i + 1 == length xs) (get_or xs i 0) ∷ marks_from (surroundings_after spot (get_or xs i 0)) (drop (i + 1) xs)
unfolding marks_from
marks_from-drop spot xs i within =
    let b = get_or xs i 0 in
    let rest = drop (i + 1) xs in
    ap (marks_from spot) (drop_more xs i 0 within)
    ∙ ap (λ is_last. marked_at spot is_last b ∷ marks_from (surroundings_after spot b) rest) (last_by (length rest) i (length xs) (length-drop (i + 1) xs) within)

-- the marks so far take one octet more, and the state is the one after it
pub marks_more : (so_far : List Marked) (m : Marked) (spot next : Surroundings) (xs : List ℕ) (i : ℕ) → i < length xs → m ≡ marked_at spot (i + 1 == length xs) (get_or xs i 0) → next ≡ surroundings_after spot (get_or xs i 0) → so_far ++ marks_from spot (drop i xs) ≡ marks_of xs → (so_far ++ m ∷ []) ++ marks_from next (drop (i + 1) xs) ≡ marks_of xs
marks_more so_far m spot next xs i within is after so =
    append_assoc so_far (m ∷ []) (marks_from next (drop (i + 1) xs))
    ∙ ap (λ (place : Surroundings). so_far ++ m ∷ marks_from place (drop (i + 1) xs)) after
    ∙ ap (λ (one : Marked). so_far ++ one ∷ marks_from (surroundings_after spot (get_or xs i 0)) (drop (i + 1) xs)) is
    ∙ ap (λ (rest : List Marked). so_far ++ rest) (sym (marks_from-drop spot xs i within)) ∙ so

pub marks_from-nil : (spot : Surroundings) → marks_from spot [] ≡ []
unfolding marks_from
marks_from-nil spot = refl

pub marked_by : (spot : Surroundings) (is_last : Bool) (b : ℕ) (m : AddressMark) → m ≡ mark_at spot is_last b → (let marked : Marked = record { octet = b; mark = m; in_angle = spot.in_angle } in marked) ≡ marked_at spot is_last b
marked_by spot is_last b m is = ap (λ (one : AddressMark). let marked : Marked = record { octet = b; mark = one; in_angle = spot.in_angle } in marked) is
