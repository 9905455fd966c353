-- A key that is the only one of a test, and one literal.
use Rattle.std.proofs.Common.{◌≡◌, ℕ, false, List, [], ◌∷◌, map, length, Option, None, Some, refl, sym, ap, ◌∙◌, append-nil}
use Rattle.std.specs.List.{flat_map, slice_get}
use Rattle.std.specs.Option.{option_and_then}
use Rattle.message_text.specs.Addresses.{AddrSpec, part_of_address}
use Rattle.message_text.specs.declared.addressing.AddressPart.{AddressPart}
use Rattle.sieve_script.specs.declared.reading.Comparison.{Comparison}
use Rattle.sieve_script.specs.Given.{literal_in_parts}
use Rattle.sieve_variables.specs.Part.{Part, literal, variable_part, match_part}
use Rattle.sieve_variables.specs.Value.{Values, text_value}
use Rattle.sieve_conditions.specs.Matching.{first_match, first_some, match_of, pairs_with}
use Rattle.sieve_conditions.specs.view.FieldTests.{cut_key, part_found}
use Rattle.sieve_conditions.proofs.Searching.{first_same, or_none}

literal_value : (values : Values) (parts : List Part) (key : List ℕ) → Some key ≡ literal_in_parts parts → text_value values parts ≡ key
literal_value values [] key is = absurd cc
literal_value values (literal octets ∷ []) key is = let e : key ≡ octets = cc in append-nil octets ∙ sym e
literal_value values (literal octets ∷ part ∷ parts) key is = absurd cc
literal_value values (variable_part variable ∷ parts) key is = absurd cc
literal_value values (match_part index ∷ parts) key is = absurd cc

-- a value is compared with the only key alone
pub only_key : (comparison : Comparison) (values : Values) (keys : List (List Part)) (parts : List Part) (key : List ℕ) → length keys ≡ 1 → slice_get keys 0 ≡ Some parts
    → Some key ≡ literal_in_parts parts → (value : List ℕ) → first_match comparison (pairs_with (flat_map (cut_key false) (map (text_value values) keys)) value) ≡ match_of comparison value key
only_key comparison values [] parts key one at is value = absurd cc
only_key comparison values (p ∷ []) parts key one at is value =
    let same : p ≡ parts = cc in
    or_none (match_of comparison value (text_value values p)) ∙ ap (match_of comparison value) (ap (text_value values) same ∙ literal_value values parts key is)
only_key comparison values (p ∷ q ∷ keys) parts key one at is value = absurd cc

then_same : {X Y : Type 0} (f g : X → Option Y) → ((x : X) → f x ≡ g x) → (o : Option X) → option_and_then f o ≡ option_and_then g o
then_same f g same None = refl
then_same f g same (Some x) = same x

-- addresses give the same match values if their parts do
pub parts_same : (f g : List ℕ → Option (List (List ℕ))) → ((text : List ℕ) → f text ≡ g text) → (part : AddressPart) (addresses : List AddrSpec) → first_some (part_found f part) addresses ≡ first_some (part_found g part) addresses
parts_same f g same part addresses = first_same (part_found f part) (part_found g part) (λ address. then_same f g same (part_of_address part address)) addresses
