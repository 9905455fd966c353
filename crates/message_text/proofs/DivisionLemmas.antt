-- The address of marked octets, by the place of the `@` that divides it.
use Rattle.std.proofs.Common.{◌≡◌, ℕ, ◌+◌, ◌-◌, ◌<◌, ◌≤◌, List, [], ◌∷◌, length, take, drop, Some, refl, sym, ap, ◌∙◌, arith}
use Rattle.std.specs.List.{after_last}
use Rattle.std.proofs.lemmas.List.{drop-map, length-drop, length-map, length-take-le, take-map}
use Rattle.octets.specs.Octet.{octet_of}
use Rattle.message_text.specs.Addresses.{AddrSpec, address_by, divided, is_free, octets_of}
use Rattle.message_text.specs.view.Divisions.{IsAfterLast, divided_at}
use Rattle.message_text.specs.declared.marks.Marked.{Marked}

both : (all local_part domain : List ℕ) → AddrSpec
both all local_part domain = record { all = all; local_part = Some local_part; domain = Some domain }

divided-both : (all local_part domain : List ℕ) → 0 < length local_part → 0 < length domain → divided all local_part domain ≡ both all local_part domain
unfolding both
divided-both all [] domain front back = absurd (omega arith)
divided-both all (b ∷ bs) [] front back = absurd (omega arith)
divided-both all (b ∷ bs) (c ∷ cs) front back = refl

-- The address of marked octets, by the octets before and after the last free `@`. `place` is after
-- this one.
address_at : (marks : List Marked) (place : ℕ) → 0 < length marks → IsAfterLast (is_free (octet_of "@")) marks place → address_by marks ≡ Some (divided (octets_of marks) (take (place - 1) (octets_of marks)) (drop place (octets_of marks)))
address_at [] place some is = absurd (omega arith)
address_at (m ∷ ms) place some is =
    let marks : List Marked = m ∷ ms in
    let octet : Marked → ℕ = λ m. m.octet in
    ap (λ (front : List ℕ). Some (divided (octets_of marks) front (octets_of (after_last (is_free (octet_of "@")) marks)))) (ap octets_of is.before ∙ sym (take-map octet (place - 1) marks))
    ∙ ap (λ (back : List ℕ). Some (divided (octets_of marks) (take (place - 1) (octets_of marks)) back)) (ap octets_of is.after ∙ sym (drop-map octet place marks))

pub with_both : (marks : List Marked) (place : ℕ) → 0 < length marks → IsAfterLast (is_free (octet_of "@")) marks place → 2 ≤ place → place < length marks → address_by marks ≡ Some (divided_at (octets_of marks) (Some (place - 1)))
unfolding both
with_both marks place some is second within =
    let all = octets_of marks in
    let octet : Marked → ℕ = λ m. m.octet in
    let len : length all ≡ length marks = length-map marks octet in
    let front : 0 < length (take (place - 1) all) = omega (arith, length-take-le (place - 1) all (omega arith)) in
    let back : 0 < length (drop place all) = omega (arith, length-drop place all) in
    let again : place ≡ place - 1 + 1 = omega arith in
    address_at marks place some is ∙ ap Some (divided-both all (take (place - 1) all) (drop place all) front back)
    ∙ ap (λ n. Some (both all (take (place - 1) all) (drop n all))) again
