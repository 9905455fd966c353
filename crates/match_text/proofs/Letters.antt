-- The octets that are equal to a given one under i;ascii-casemap, and searches by tests that answer
-- alike.
use Rattle.std.proofs.Common.{◌≡◌, ℕ, Bool, ◌==◌, List, Option, None, Some, sym, ◌∙◌, arith}
use Rattle.std.specs.Char.{to_ascii_lowercase, to_ascii_uppercase}
use Rattle.std.proofs.lemmas.Bool.Decides.{nat_tests}
use Rattle.memchr.specs.Find.{IsFirstByte, is_byte2}
use Rattle.match_text.specs.Comparator.{ascii_casemap}

-- an octet is equal to b exactly if it is b in upper or in lower case
pub letter : (b x : ℕ) → is_byte2 (to_ascii_uppercase b) (to_ascii_lowercase b) x ≡ (ascii_casemap x == ascii_casemap b)
letter b x = grind (arith, nat_tests)

-- tests that answer alike find the same place
pub IsFirstByte-alike : (p q : ℕ → Bool) → ((x : ℕ) → p x ≡ q x) → (value : List ℕ) (r : Option ℕ) → IsFirstByte p value r → IsFirstByte q value r
IsFirstByte-alike p q alike value None nowhere = λ k low high passes. nowhere k low high (alike _ ∙ passes)
IsFirstByte-alike p q alike value (Some k) found = (
  record {
    low = found.0.low;
    high = found.0.high;
    before = λ j low high passes. found.0.before j low high (alike _ ∙ passes);
  },
  sym (alike _) ∙ found.1,
)
