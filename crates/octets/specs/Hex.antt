-- Digits of base 16 (RFC 4648, section 8; RFC 5234, appendix B.1: HEXDIG).
use Rattle.std.specs.Prelude.{ℕ, ◌+◌, ◌-◌, ◌*◌, nat_lt, if◌then◌else◌, Option, Some, None}
use Rattle.std.specs.Option.{option_and_then, option_map}
use Rattle.octets.specs.Octet.{is_between, is_digit, octet_of}

-- the digit of a number under 16, in lower case
abbrev pub hex_digit : ℕ → ℕ
hex_digit n = if nat_lt n 10 then octet_of "0" + n else octet_of "a" + (n - 10)

-- the number of a digit, in either case; none for another octet
abbrev pub hex_value : ℕ → Option ℕ
hex_value octet =
    if is_digit octet then Some (octet - octet_of "0")
    else if is_between (octet_of "A") (octet_of "F") octet then Some (octet - octet_of "A" + 10)
    else if is_between (octet_of "a") (octet_of "f") octet then Some (octet - octet_of "a" + 10)
    else None

-- the octet of two digits, if both are such
abbrev pub hex_octet : (high low : ℕ) → Option ℕ
hex_octet high low = option_and_then (λ h. option_map (λ l. 16 * h + l) (hex_value low)) (hex_value high)
