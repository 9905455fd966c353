-- The address in a piece, by the places of the signs of the first angle and of its source route.
use Rattle.std.proofs.Common.{◌≡◌, ℕ, ◌+◌, ◌-◌, Bool, true, List, length, take, drop, None, Some, sym, ap, ◌∙◌, arith}
use Rattle.std.specs.List.{after_first, before_first, list_any}
use Rattle.std.proofs.lemmas.Bool.{and_from, and_right, cond-false, cond-true}
use Rattle.std.proofs.lemmas.List.{take_all, length-drop}
use Rattle.octets.specs.Octet.{octet_of}
use Rattle.message_text.specs.Addresses.{begins_route, closes_angle, in_first_angle, is_free, opens_angle, without_route}
use Rattle.message_text.specs.declared.marks.Marked.{Marked}
use Rattle.message_text.proofs.PieceLemmas.{first_place, none_passes, place_is, some_passes}

-- the range from place n to the end of a list is the list without its first n elements
pub rest_from : {X : Type 0} (n : ℕ) (xs : List X) → take (length xs - n) (drop n xs) ≡ drop n xs
rest_from n xs = take_all (length xs - n) (drop n xs) (omega (arith, length-drop n xs))

-- the elements after the first one that passes
after_first-place : {X : Type 0} (p : X → Bool) (xs : List X) (k : ℕ) → Some k ≡ first_place p xs → after_first p xs ≡ drop (k + 1) xs
after_first-place p xs k is = ap (λ n. drop (n + 1) xs) (place_is p xs k is)

pub route_dropped : (inside : List Marked) (colon : ℕ) → begins_route inside ≡ true → Some colon ≡ first_place (is_free (octet_of ":")) inside → take (length inside - (colon + 1)) (drop (colon + 1) inside) ≡ without_route inside
route_dropped inside colon begins is =
    let test = is_free (octet_of ":") in
    rest_from (colon + 1) inside ∙ sym (after_first-place test inside colon is)
    ∙ sym (cond-true _ (after_first test inside) inside (and_from (begins_route inside) (list_any test inside) begins (some_passes test inside colon is)))

pub route_kept : (inside : List Marked) → None ≡ first_place (is_free (octet_of ":")) inside → inside ≡ without_route inside
route_kept inside is =
    let test = is_free (octet_of ":") in
    sym (cond-false _ (after_first test inside) inside (and_right (begins_route inside) (list_any test inside) (none_passes test inside is)))

pub no_angle : (piece : List Marked) → None ≡ first_place (λ m. opens_angle m.mark) piece → piece ≡ in_first_angle piece
no_angle piece is = sym (cond-false _ _ piece (none_passes (λ m. opens_angle m.mark) piece is))

pub angle_inside : (piece : List Marked) (open_at : ℕ) (inside address : List Marked) → Some open_at ≡ first_place (λ m. opens_angle m.mark) piece → inside ≡ before_first (λ m. closes_angle m.mark) (take (length piece - (open_at + 1)) (drop (open_at + 1) piece)) → address ≡ without_route inside → address ≡ in_first_angle piece
angle_inside piece open_at inside address is closed route =
    let opens = λ (m : Marked). opens_angle m.mark in
    let closes = λ (m : Marked). closes_angle m.mark in
    route ∙ ap without_route (closed ∙ ap (before_first closes) (rest_from (open_at + 1) piece ∙ sym (after_first-place opens piece open_at is)))
    ∙ sym (cond-true _ _ piece (some_passes opens piece open_at is))
