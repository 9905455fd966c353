-- Names of fields and their hashes.
use Rattle.std.proofs.Common.{◌≡◌, ◌≢◌, ℕ, ◌==◌, true, false, List, [], ◌∷◌, map, Some, slice_get, refl, ap, ◌∙◌}
use Rattle.std.specs.List.{fold}
use Rattle.std.specs.Option.{option_map}
use Rattle.std.proofs.lemmas.Bool.{and_parts, eqb-true, false_from_ne_true}
use Rattle.std.proofs.lemmas.Option.{slice_get-map}
use Rattle.match_text.specs.Comparator.{ascii_casemap, same}
use Rattle.message_text.specs.Fields.{Group, field_groups, field_of, fields_of, is_field_named}
use Rattle.message_text.specs.view.NameHash.{name_hash, with_octet}

-- texts that are the same are one text after folding
same_folded : (a b : List ℕ) → same ascii_casemap a b ≡ true → map ascii_casemap a ≡ map ascii_casemap b
same_folded [] [] is = refl
same_folded [] (y ∷ b) is = absurd cc
same_folded (x ∷ a) [] is = absurd cc
same_folded (x ∷ a) (y ∷ b) is =
    let parts = and_parts (ascii_casemap x == ascii_casemap y) (same ascii_casemap a b) is in
    let first : ascii_casemap x ≡ ascii_casemap y = eqb-true (ascii_casemap x) (ascii_casemap y) parts.0 in
    ap (λ octet. octet ∷ map ascii_casemap a) first ∙ ap (λ (rest : List ℕ). ascii_casemap y ∷ rest) (same_folded a b parts.1)

-- names with different hashes aren't the same
pub hashes_differ : (a b : List ℕ) → name_hash a ≢ name_hash b → same ascii_casemap a b ≡ false
unfolding name_hash
hashes_differ a b differ =
    false_from_ne_true (same ascii_casemap a b) (λ is. differ (ap (fold with_octet 0) (same_folded a b is)))

-- whether field i has a name, by its group
pub named_at : (octets name : List ℕ) (i : ℕ) (group : Group) → slice_get (field_groups octets) i ≡ Some group → slice_get (map (is_field_named name) (fields_of octets)) i ≡ Some (is_field_named name (field_of group))
unfolding fields_of
named_at octets name i group is =
    slice_get-map (is_field_named name) (map field_of (field_groups octets)) i
    ∙ ap (option_map (is_field_named name)) (slice_get-map field_of (field_groups octets) i ∙ ap (option_map field_of) is)
