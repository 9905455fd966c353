-- Numbers with the digits that dates and zones have.
use Rattle.std.specs.Prelude.{ℕ, ◌+◌, ◌-◌, ◌*◌, ◌/◌, ◌%◌, nat_le, List, [], ◌∷◌, ◌++◌, Option, Some, None, if◌then◌else◌}
use Rattle.std.specs.Option.{option_and_then, option_map}
use Rattle.octets.specs.Octet.{is_digit, octet_of}

-- the number of a digit
abbrev pub digit_number : ℕ → Option ℕ
digit_number c = if is_digit c then Some (c - octet_of "0") else None

-- the number of two digits
abbrev pub pair_number : (c d : ℕ) → Option ℕ
pair_number c d = option_and_then (λ high. option_map (λ low. 10 * high + low) (digit_number d)) (digit_number c)

-- the number of four digits
abbrev pub four_number : (a b c d : ℕ) → Option ℕ
four_number a b c d = option_and_then (λ high. option_map (λ low. 100 * high + low) (pair_number c d)) (pair_number a b)

-- a number, if there is one and it is up to a limit
abbrev pub up_to : ℕ → Option ℕ → Option ℕ
up_to limit number = option_and_then (λ n. if nat_le n limit then Some n else None) number

-- the digit of a number under 10
abbrev pub digit : ℕ → ℕ
digit n = octet_of "0" + n

-- a number under 100 as two digits
abbrev pub two_digits : ℕ → List ℕ
two_digits n = digit (n / 10) ∷ digit (n % 10) ∷ []

-- a number under 10000 as four digits
abbrev pub four_digits : ℕ → List ℕ
four_digits n = two_digits (n / 100) ++ two_digits (n % 100)
