-- The octets that base64 stands for (RFC 2045, 6.8).
use Rattle.std.specs.Prelude.{ℕ, ◌+◌, ◌-◌, ◌*◌, ◌/◌, ◌%◌, ◌==◌, not, Bool, List, [], ◌∷◌, Option, None, Some, if◌then◌else◌}
use Rattle.std.specs.List.{filter_map, take_while}
use Rattle.octets.specs.Octet.{is_between, is_digit, octet_of}

-- the number of a digit of the alphabet; none for another octet
abbrev pub digit_value : ℕ → Option ℕ
digit_value octet =
    if is_between (octet_of "A") (octet_of "Z") octet then Some (octet - octet_of "A")
    else if is_between (octet_of "a") (octet_of "z") octet then Some (octet - octet_of "a" + 26)
    else if is_digit octet then Some (octet - octet_of "0" + 52)
    else if octet == octet_of "+" then Some 62
    else if octet == octet_of "/" then Some 63
    else None

-- an octet that isn't the padding
abbrev pub is_unpadded : ℕ → Bool
is_unpadded octet = not (octet == octet_of "=")

-- the numbers of the digits before the first padding; other octets are skipped
abbrev pub digits_of : List ℕ → List ℕ
digits_of text = filter_map digit_value (take_while is_unpadded text)

-- the three octets of four digits of six bits each
abbrev pub first_octet : (a b : ℕ) → ℕ
first_octet a b = 4 * a + b / 16

abbrev pub second_octet : (b c : ℕ) → ℕ
second_octet b c = 16 * (b % 16) + c / 4

abbrev pub third_octet : (c d : ℕ) → ℕ
third_octet c d = 64 * (c % 4) + d

-- the octets of digits, of which only whole ones are kept
unfoldable pub whole_octets : List ℕ → List ℕ
whole_octets (a ∷ b ∷ c ∷ d ∷ rest) = first_octet a b ∷ second_octet b c ∷ third_octet c d ∷ whole_octets rest
whole_octets (a ∷ b ∷ c ∷ []) = first_octet a b ∷ second_octet b c ∷ []
whole_octets (a ∷ b ∷ []) = first_octet a b ∷ []
whole_octets (a ∷ []) = []
whole_octets [] = []

-- the octets of a content in base64
abbrev pub base64_octets : List ℕ → List ℕ
base64_octets text = whole_octets (digits_of text)
