-- The number of values, as they are counted one after another.
use Rattle.std.proofs.Common.{◌≡◌, ℕ, suc, ◌+◌, ◌<◌, arith, Bool, true, false, List, [], ◌∷◌, filter, length, cond, Option, None, Some, refl, sym, ap, ◌∙◌}
use Rattle.std.specs.Prelude.{if◌then◌else◌, option_to_list}
use Rattle.std.specs.List.{All, filter_map, flat_map, fold}
use Rattle.std.specs.Option.{option_map}
use Rattle.std.proofs.lemmas.List.{length-append}
use Rattle.std.proofs.lemmas.Bool.{lt-ltb}
use Rattle.message_text.specs.Addresses.{AddrSpec, IsAddrSpec, addresses_of, is_null_path, part_of_address, part_of_path, the_only}
use Rattle.message_text.specs.Fields.{Field}
use Rattle.message_text.specs.declared.addressing.AddressPart.{AddressPart}
use Rattle.message_text.specs.declared.addressing.AddressPart.TheVariants as parts
use Rattle.message_text.proofs.LawLemmas.{addresses_are_whole}
use Rattle.octets.specs.Octet.{is_filled}
use Rattle.sieve_profile.specs.Profile.{Profile}
use Rattle.sieve_conditions.specs.Matching.{fields_looked_at, parts_of_envelope, values_in}
use Rattle.sieve_conditions.specs.declared.counting.Counter.{Counter}
use Rattle.sieve_conditions.specs.view.FieldTests.{counted_after}

-- ADDRESSES

-- each address has all of itself
all_parts : (addresses : List AddrSpec) → length (filter_map (part_of_address parts.All) addresses) ≡ length addresses
all_parts [] = refl
all_parts (address ∷ addresses) = ap suc (all_parts addresses)

-- a field of which parts of addresses are looked at counts for as many as it has addresses
pub as_many : (profile : Profile) (part : AddressPart) (field : Field) → length (addresses_of field.value) ≡ length (values_in profile (option_map (λ one. parts.All) (Some part)) field)
as_many profile part field = sym (all_parts (addresses_of field.value))

counted_more : (profile : Profile) (part : Option AddressPart) (fields : List Field) (counter : Counter)
    → (fold (counted_after profile part) counter fields).count ≡ counter.count + length (flat_map (values_in profile (option_map (λ one. parts.All) part)) fields)
counted_more profile part [] counter = omega arith
counted_more profile part (field ∷ fields) counter =
    let values = values_in profile (option_map (λ one. parts.All) part) in
    let rest = counted_more profile part fields (counted_after profile part counter field) in
    let joined = length-append (values field) (flat_map values fields) in
    omega arith

-- fields are looked at whatever part of their addresses is
whole_looked_at : (part : Option AddressPart) (fields : List Field) (names : List (List ℕ)) → fields_looked_at part fields names ≡ fields_looked_at (option_map (λ one. parts.All) part) fields names
whole_looked_at None fields names = refl
whole_looked_at (Some one) fields names = refl

-- the values that have been counted at the end are those of the fields that are looked at
pub all_counted : (profile : Profile) (part : Option AddressPart) (fields : List Field) (names : List (List ℕ)) → (fold (counted_after profile part) (record { count = 0 }) (fields_looked_at part fields names)).count
    ≡ length (flat_map (values_in profile (option_map (λ one. parts.All) part)) (fields_looked_at (option_map (λ one. parts.All) part) fields names))
all_counted profile part fields names =
    let all = counted_more profile part (fields_looked_at part fields names) (record { count = 0 }) in
    let same = ap (λ looked. length (flat_map (values_in profile (option_map (λ one. parts.All) part)) looked)) (whole_looked_at part fields names) in
    omega arith

-- AN ENVELOPE'S ADDRESS

-- the address of a text that isn't empty isn't empty
only_filled : (text : List ℕ) (addresses : List AddrSpec) → 0 < length text → All IsAddrSpec addresses → 0 < length (the_only text addresses).all
only_filled text [] filled whole = filled
only_filled text (one ∷ []) filled whole = (whole 0 one (omega arith)).filled
only_filled text (one ∷ two ∷ more) filled whole = filled

counts_one : (all : List ℕ) → 0 < length all → length (filter is_filled (all ∷ [])) ≡ 1
counts_one all filled = ap (λ b. length (cond b (all ∷ []) [])) (lt-ltb 0 (length all) filled)

-- the null path is no address, and each other text is one
pub path_count : (text : List ℕ) (null : Bool) → is_null_path text ≡ null → length (filter is_filled (parts_of_envelope parts.All (Some text))) ≡ (if null then 0 else 1)
unfolding part_of_path
path_count text true is = ap (λ b. length (filter is_filled (option_to_list (if b then Some [] else part_of_address parts.All (the_only text (addresses_of text)))))) is
path_count [] false is = cc
path_count (b ∷ rest) false is =
    ap (λ null. length (filter is_filled (option_to_list (if null then Some [] else part_of_address parts.All (the_only (b ∷ rest) (addresses_of (b ∷ rest))))))) is
    ∙ counts_one (the_only (b ∷ rest) (addresses_of (b ∷ rest))).all (only_filled (b ∷ rest) (addresses_of (b ∷ rest)) (omega arith) (addresses_are_whole (b ∷ rest)))
