-- The modifiers of a value that is set (RFC 5229, 4.1).
use Rattle.std.specs.Prelude.{ℕ, Bool, true, false, ◌==◌, ◌||◌, ◌&&◌, not, List, [], ◌∷◌, length, map, filter, take, Option, Some, None, decimal, nat_le, nat_lt, if◌then◌else◌}
use Rattle.std.specs.Char.{to_ascii_lowercase, to_ascii_uppercase}
use Rattle.std.specs.List.{flat_map}
use Rattle.sieve_limits.specs.Limits.{value_limit}
use Rattle.octets.specs.Octet.{octet_of}
use Rattle.sieve_variables.specs.declared.modifier.LetterCase.{LetterCase}
use Rattle.sieve_variables.specs.declared.modifier.LetterCase.TheVariants.{Lower, Upper}
use Rattle.sieve_variables.specs.declared.modifier.Modifiers.{Modifiers}

-- An octet in a case. Only letters of ASCII have one (RFC 5229, 4.1.3).
abbrev pub in_case : LetterCase → ℕ → ℕ
in_case Lower c = to_ascii_lowercase c
in_case Upper c = to_ascii_uppercase c

-- `:lower`, `:upper` (RFC 5229, 4.1.3)
abbrev pub with_case : Option LetterCase → List ℕ → List ℕ
with_case None value = value
with_case (Some one) value = map (in_case one) value

-- `:lowerfirst`, `:upperfirst` (RFC 5229, 4.1.3)
abbrev pub with_first : Option LetterCase → List ℕ → List ℕ
with_first None value = value
with_first (Some one) [] = []
with_first (Some one) (c ∷ cs) = in_case one c ∷ cs

-- an octet that `:matches` takes for more than itself
abbrev pub is_wild : ℕ → Bool
is_wild c = c == octet_of "*" || (c == octet_of "?" || c == octet_of "\\")

abbrev pub quoted_wildcard : ℕ → List ℕ
quoted_wildcard c = if is_wild c then octet_of "\\" ∷ c ∷ [] else c ∷ []

-- `:quotewildcard` (RFC 5229, 4.1.2)
abbrev pub with_quotes : Bool → List ℕ → List ℕ
with_quotes false value = value
with_quotes true value = flat_map quoted_wildcard value

-- an octet of the form 10xxxxxx, with which a character of UTF-8 goes on (RFC 3629, section 3)
abbrev pub goes_on : ℕ → Bool
goes_on c = nat_le 128 c && nat_lt c 192

-- the number of characters, of text in UTF-8 (RFC 5229, 4.1.1)
abbrev pub character_count : List ℕ → ℕ
character_count value = length (filter (λ c. not (goes_on c)) value)

-- `:length` (RFC 5229, 4.1.1)
abbrev pub with_length : Bool → List ℕ → List ℕ
with_length false value = value
with_length true value = decimal (character_count value)

-- All modifiers that are given are applied, those of higher precedence first (RFC 5229, 4.1). Then
-- the octets past the limit are cut (RFC 5229, section 6).
unfoldable pub modified : Modifiers → List ℕ → List ℕ
modified modifiers value = take value_limit (with_length modifiers.length (with_quotes modifiers.quote_wildcard (with_first modifiers.first_letter (with_case modifiers.letter_case value))))
