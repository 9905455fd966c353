-- The quoted form of octets is read back.
use Rattle.octets.specs.Octet.{octet_of}
use Rattle.std.proofs.Common.{◌≡◌, ℕ, ◌/◌, ◌%◌, ◌<◌, ◌||◌, Bool, true, false, eqb, cond, List, [], ◌∷◌, ◌++◌, append_assoc, nat_lt, Some, refl, ap, ◌∙◌, arith}
use Rattle.std.specs.List.{All, AllByRecursion, flat_map}
use Rattle.std.proofs.lemmas.Bool.Decides.{nat_tests}
use Rattle.std.proofs.lemmas.List.Elements.{recursion_from_All}
use Rattle.octets.specs.Hex.{hex_digit, hex_octet, hex_value}
use Rattle.devices.specs.Writers.{octet_spelling, quoted}
use Rattle.session_text.specs.SessionLine.{after, escaped_value, hex_octets, quoted_value, word_value}

-- the digit of a number below 16 has this number as its value
digit_value : (n : ℕ) → n < 16 → hex_value (hex_digit n) ≡ Some n
digit_value n small = grind (arith, nat_tests)

-- two digits of an octet have the octet's value
octet_value : (b : ℕ) → b < 256 → hex_octet (hex_digit (b / 16)) (hex_digit (b % 16)) ≡ Some b
octet_value b small =
    let high : b / 16 < 16 = omega arith in
    let low : b % 16 < 16 = omega arith in
    rw (digit_value (b / 16) high) (rw (digit_value (b % 16) low) (ap Some (omega arith)))

-- a quote or a backslash after a backslash stands for itself
escaped_back : (b : ℕ) (rest : List ℕ) → (eqb b (octet_of "\"") || eqb b (octet_of "\\")) ≡ true → quoted_value (octet_of "\\" ∷ b ∷ rest) ≡ after b (quoted_value rest)
unfolding quoted_value escaped_value
escaped_back b rest is = rw is refl

-- `\x` and the two digits of an octet stand for the octet
hex_back : (b : ℕ) (rest : List ℕ) → b < 256 → quoted_value (octet_of "\\" ∷ octet_of "x" ∷ hex_digit (b / 16) ∷ hex_digit (b % 16) ∷ rest) ≡ after b (quoted_value rest)
unfolding quoted_value escaped_value hex_octets
hex_back b rest small = rw (octet_value b small) refl

-- an octet that is neither a quote nor a backslash stands for itself
plain_back : (b : ℕ) (rest : List ℕ) → (eqb b (octet_of "\"") || eqb b (octet_of "\\")) ≡ false → quoted_value (b ∷ rest) ≡ after b (quoted_value rest)
unfolding quoted_value
plain_back b rest is = grind (arith, nat_tests)

-- the spelling of an octet stands for the octet
spelling_value : (b : ℕ) (rest : List ℕ) → b < 256 → quoted_value (octet_spelling b ++ rest) ≡ after b (quoted_value rest)
spelling_value b rest small = by_quote (eqb b (octet_of "\"") || eqb b (octet_of "\\")) refl
  where
    by_digits : (v : Bool) → (eqb b (octet_of "\"") || eqb b (octet_of "\\")) ≡ false → quoted_value (cond v (octet_of "\\" ∷ octet_of "x" ∷ hex_digit (b / 16) ∷ hex_digit (b % 16) ∷ []) (b ∷ []) ++ rest) ≡ after b (quoted_value rest)
    by_digits true none = hex_back b rest small
    by_digits false none = plain_back b rest none

    by_quote : (v : Bool) → (eqb b (octet_of "\"") || eqb b (octet_of "\\")) ≡ v → quoted_value (cond v (octet_of "\\" ∷ b ∷ []) (cond (nat_lt b (octet_of " ") || nat_lt (octet_of "~") b) (octet_of "\\" ∷ octet_of "x" ∷ hex_digit (b / 16) ∷ hex_digit (b % 16) ∷ []) (b ∷ [])) ++ rest) ≡ after b (quoted_value rest)
    by_quote true is = escaped_back b rest is
    by_quote false is = by_digits (nat_lt b (octet_of " ") || nat_lt (octet_of "~") b) is

end_value : quoted_value (octet_of "\"" ∷ []) ≡ Some []
unfolding quoted_value
end_value = refl

-- the spellings of octets, up to a last quote, stand for these octets
spellings_value : (octets : List ℕ) → AllByRecursion (λ b. b < 256) octets → quoted_value (flat_map octet_spelling octets ++ octet_of "\"" ∷ []) ≡ Some octets
spellings_value [] small = end_value
spellings_value (b ∷ bs) small =
    ap quoted_value (append_assoc (octet_spelling b) (flat_map octet_spelling bs) (octet_of "\"" ∷ []))
    ∙ spelling_value b (flat_map octet_spelling bs ++ octet_of "\"" ∷ []) small.0
    ∙ ap (after b) (spellings_value bs small.1)

-- a quoted word stands for its octets
pub quoted_stands : (octets : List ℕ) → All (λ octet. octet < 256) octets → word_value (quoted octets) ≡ Some octets
unfolding word_value quoted
quoted_stands octets small = spellings_value octets (recursion_from_All (λ b. b < 256) octets small)
