-- The quoted form of octets is plain octets.
use Rattle.std.proofs.Common.{◌≡◌, ℕ, ◌/◌, ◌%◌, ◌<◌, ◌||◌, Bool, true, false, eqb, cond, List, [], ◌∷◌, ◌++◌, map, nat_lt, refl, ◌∙◌, arith}
use Rattle.std.specs.List.{All, AllByRecursion, flat_map, list_all}
use Rattle.std.proofs.lemmas.Bool.Decides.{nat_tests}
use Rattle.std.proofs.lemmas.List.Elements.{recursion_from_All}
use Rattle.std.proofs.lemmas.List.Folds.{list_all-append}
use Rattle.octets.specs.Hex.{hex_digit}
use Rattle.devices.specs.Writers.{octet_spelling, quoted}
use Rattle.session_text.specs.LineOf.{joined}
use Rattle.octets.specs.Octet.{is_printable, octet_of}

plain_both : (a b : List ℕ) → list_all is_printable a ≡ true → list_all is_printable b ≡ true → list_all is_printable (a ++ b) ≡ true
plain_both a b first second = list_all-append is_printable a b ∙ rw first second

plain_next : (b : ℕ) (bs : List ℕ) → is_printable b ≡ true → list_all is_printable bs ≡ true → list_all is_printable (b ∷ bs) ≡ true
plain_next b bs first second = rw first second

digit_plain : (n : ℕ) → n < 16 → is_printable (hex_digit n) ≡ true
digit_plain n small = grind (arith, nat_tests)

spelling_plain : (b : ℕ) → b < 256 → list_all is_printable (octet_spelling b) ≡ true
spelling_plain b small = by_quote (eqb b (octet_of "\"") || eqb b (octet_of "\\")) refl
  where
    by_digits : (v : Bool) → (nat_lt b (octet_of " ") || nat_lt (octet_of "~") b) ≡ v → list_all is_printable (cond v (octet_of "\\" ∷ octet_of "x" ∷ hex_digit (b / 16) ∷ hex_digit (b % 16) ∷ []) (b ∷ [])) ≡ true
    by_digits true is =
        let high : b / 16 < 16 = omega arith in
        let low : b % 16 < 16 = omega arith in
        let digits : list_all is_printable (hex_digit (b / 16) ∷ hex_digit (b % 16) ∷ []) ≡ true =
        plain_next (hex_digit (b / 16)) (hex_digit (b % 16) ∷ []) (digit_plain (b / 16) high) (plain_next (hex_digit (b % 16)) [] (digit_plain (b % 16) low) refl) in
        plain_both (octet_of "\\" ∷ octet_of "x" ∷ []) (hex_digit (b / 16) ∷ hex_digit (b % 16) ∷ []) refl digits
    by_digits false is =
        let plain : is_printable b ≡ true = grind (arith, nat_tests) in
        plain_next b [] plain refl

    by_quote : (v : Bool) → (eqb b (octet_of "\"") || eqb b (octet_of "\\")) ≡ v → list_all is_printable (cond v (octet_of "\\" ∷ b ∷ []) (cond (nat_lt b (octet_of " ") || nat_lt (octet_of "~") b) (octet_of "\\" ∷ octet_of "x" ∷ hex_digit (b / 16) ∷ hex_digit (b % 16) ∷ []) (b ∷ []))) ≡ true
    by_quote true is =
        let plain : is_printable b ≡ true = grind (arith, nat_tests) in
        plain_next (octet_of "\\") (b ∷ []) refl (plain_next b [] plain refl)
    by_quote false is = by_digits (nat_lt b (octet_of " ") || nat_lt (octet_of "~") b) refl

spellings_plain : (octets : List ℕ) → AllByRecursion (λ b. b < 256) octets → list_all is_printable (flat_map octet_spelling octets) ≡ true
spellings_plain [] small = refl
spellings_plain (b ∷ bs) small = plain_both (octet_spelling b) (flat_map octet_spelling bs) (spelling_plain b small.0) (spellings_plain bs small.1)

quoted_plain : (octets : List ℕ) → AllByRecursion (λ b. b < 256) octets → list_all is_printable (quoted octets) ≡ true
unfolding quoted
quoted_plain octets small = plain_both ((octet_of "\"" ∷ []) ++ flat_map octet_spelling octets) (octet_of "\"" ∷ []) (plain_both (octet_of "\"" ∷ []) (flat_map octet_spelling octets) refl (spellings_plain octets small)) refl

joined_plain : (values : List (List ℕ)) → AllByRecursion (All (λ octet. octet < 256)) values → list_all is_printable (joined (map quoted values)) ≡ true
joined_plain [] small = refl
joined_plain (value ∷ []) small = quoted_plain value (recursion_from_All (λ b. b < 256) value small.0)
joined_plain (value ∷ next ∷ values) small =
    plain_both (quoted value) (octet_of " " ∷ joined (map quoted (next ∷ values))) (quoted_plain value (recursion_from_All (λ b. b < 256) value small.0))
    (plain_next (octet_of " ") (joined (map quoted (next ∷ values))) refl (joined_plain (next ∷ values) small.1))

-- a line of quoted values has printable octets alone
pub plain_line : (values : List (List ℕ)) → All (All (λ octet. octet < 256)) values → list_all is_printable (joined (map quoted values)) ≡ true
plain_line values small = joined_plain values (recursion_from_All (All (λ octet. octet < 256)) values small)
