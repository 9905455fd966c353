-- The octets that encoded characters stand for (RFC 5228, 2.4.2.4).
use Rattle.std.specs.Prelude.{ℕ, ◌+◌, ◌*◌, Bool, true, false, ◌||◌, nat_lt, List, [], ◌∷◌, ◌++◌, Option, None, Some, encode_utf8, if◌then◌else◌}
use Rattle.std.specs.Option.{option_and_then, option_map}
use Rattle.octets.specs.Hex.{hex_octet, hex_value}
use Rattle.octets.specs.Octet.{is_between}
use Rattle.encoded_characters.specs.Sequence.{EncodedSequence, is_hex}

-- octets after others, if both are there
abbrev pub octets_before : Option (List ℕ) → Option (List ℕ) → Option (List ℕ)
octets_before first after = option_and_then (λ front. option_map (λ more. front ++ more) after) first

-- the octets that each of a list stands for, in turn, if each stands for some
abbrev pub joined : {A : Type 0} → (A → Option (List ℕ)) → List A → Option (List ℕ)
joined value [] = Some []
joined value (x ∷ xs) = octets_before (value x) (joined value xs)

-- the octet of one digit or of two: hex-pair
abbrev pub pair_octet : List ℕ → Option ℕ
pair_octet [] = None
pair_octet (low ∷ []) = hex_value low
pair_octet (high ∷ low ∷ []) = hex_octet high low
pair_octet (high ∷ low ∷ next ∷ digits) = None

-- the number of digits of base 16 after others of the number `n`, if all are such digits
abbrev pub number_from : ℕ → List ℕ → Option ℕ
number_from n [] = Some n
number_from n (digit ∷ digits) = option_and_then (λ value. number_from (16 * n + value) digits) (hex_value digit)

-- Whether a number is that of a character of Unicode (RFC 3629, section 3). Those from D800 to DFFF
-- and those above 10FFFF aren't.
abbrev pub is_character : ℕ → Bool
is_character n = nat_lt n 0xD800 || is_between 0xE000 0x10FFFF n

-- a number, if it is that of a character
abbrev pub if_character : ℕ → Option ℕ
if_character n = if is_character n then Some n else None

-- the character whose number digits are, with any zeros before it
abbrev pub character_of : List ℕ → Option ℕ
character_of digits = option_and_then if_character (number_from 0 digits)

-- the octets that digits stand for: one octet, or a character in UTF-8
abbrev pub octets_of_digits : (hex : Bool) → List ℕ → Option (List ℕ)
octets_of_digits true digits = option_map (λ octet. octet ∷ []) (pair_octet digits)
octets_of_digits false digits = option_map encode_utf8 (character_of digits)

-- the octets that a sequence stands for, or none where a number isn't that of a character
abbrev pub octets_of_sequence : EncodedSequence → Option (List ℕ)
octets_of_sequence s = joined (λ item. octets_of_digits (is_hex s.word) item.digits) s.inside.items
