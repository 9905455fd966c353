-- The number of characters and the front of a value under its modifiers.
use Rattle.octets.specs.Octet.{octet_of}
use Rattle.std.proofs.Common.{◌≡◌, ℕ, ◌+◌, ◌≤◌, ◌<◌, List, [], ◌∷◌, ◌++◌, Bool, true, false, not, Option, Some, None, cond, if◌then◌else◌, filter, length, map, take, set, get_or, decimal, zero, suc, ◌^◌, refl, ap, sym, ◌∙◌, arith}
use Rattle.std.proofs.lemmas.Bool.Decides.{nat_tests}
use Rattle.std.proofs.lemmas.Fmt.{length-decimal-le}
use Rattle.std.proofs.lemmas.List.{take-map, take_all}
use Rattle.std.proofs.lemmas.List.Sums.{length-filter, count_by-le-length}
use Rattle.std.specs.Char.{to_ascii_lowercase, to_ascii_uppercase}
use Rattle.std.specs.List.{flat_map}
use Rattle.sieve_limits.specs.Limits.{value_limit}
use Rattle.sieve_variables.specs.Modifier.{character_count, goes_on, in_case, is_wild, modified, quoted_wildcard, with_case, with_first, with_length, with_quotes}
use Rattle.sieve_variables.specs.declared.modifier.LetterCase.{LetterCase}
use Rattle.sieve_variables.specs.declared.modifier.LetterCase.TheVariants.{Lower, Upper}
use Rattle.sieve_variables.specs.declared.modifier.Modifiers.{Modifiers}

-- FIRST LETTERS

-- a value whose first octet is written in a case is the value with its first letter in that case
pub first_written : (one : LetterCase) (value : List ℕ) → 0 < length value → set value 0 (in_case one (get_or value 0 0)) ≡ with_first (Some one) value
first_written one [] some = absurd (omega arith)
first_written one (c ∷ cs) some = refl

-- COUNTS

lower-goes_on : (c : ℕ) → goes_on (to_ascii_lowercase c) ≡ goes_on c
lower-goes_on c = grind (arith, nat_tests)

upper-goes_on : (c : ℕ) → goes_on (to_ascii_uppercase c) ≡ goes_on c
upper-goes_on c = grind (arith, nat_tests)

lower-is_wild : (c : ℕ) → is_wild (to_ascii_lowercase c) ≡ is_wild c
lower-is_wild c = grind (arith, nat_tests)

upper-is_wild : (c : ℕ) → is_wild (to_ascii_uppercase c) ≡ is_wild c
upper-is_wild c = grind (arith, nat_tests)

-- no octet begins a character in one case and none in the other
in_case-goes_on : (one : LetterCase) (c : ℕ) → not (goes_on (in_case one c)) ≡ not (goes_on c)
in_case-goes_on Lower c = ap not (lower-goes_on c)
in_case-goes_on Upper c = ap not (upper-goes_on c)

-- no octet is wild in one case and not in the other
in_case-is_wild : (one : LetterCase) (c : ℕ) → is_wild (in_case one c) ≡ is_wild c
in_case-is_wild Lower c = lower-is_wild c
in_case-is_wild Upper c = upper-is_wild c

-- a count by a test stays, where the test takes an octet in a case as it takes the octet
module _ (test : ℕ → Bool) (same : (one : LetterCase) (c : ℕ) → test (in_case one c) ≡ test c) where
  count-map : (one : LetterCase) (value : List ℕ) → length (filter test (map (in_case one) value)) ≡ length (filter test value)
  count-map one [] = refl
  count-map one (c ∷ cs) = by (test (in_case one c)) (test c) (same one c) (count-map one cs)
    where
      by : (a b : Bool) → a ≡ b → length (filter test (map (in_case one) cs)) ≡ length (filter test cs)
          → length (cond a (in_case one c ∷ filter test (map (in_case one) cs)) (filter test (map (in_case one) cs))) ≡ length (cond b (c ∷ filter test cs) (filter test cs))
      by true true e rest = omega arith
      by true false e rest = cc
      by false true e rest = cc
      by false false e rest = rest

  count-with_case : (case : Option LetterCase) (value : List ℕ) → length (filter test (with_case case value)) ≡ length (filter test value)
  count-with_case None value = refl
  count-with_case (Some one) value = count-map one value

  count-with_first : (case : Option LetterCase) (value : List ℕ) → length (filter test (with_first case value)) ≡ length (filter test value)
  count-with_first None value = refl
  count-with_first (Some one) [] = refl
  count-with_first (Some one) (c ∷ cs) = by (test (in_case one c)) (test c) (same one c)
    where
      by : (a b : Bool) → a ≡ b → length (cond a (in_case one c ∷ filter test cs) (filter test cs)) ≡ length (cond b (c ∷ filter test cs) (filter test cs))
      by true true e = refl
      by true false e = cc
      by false true e = cc
      by false false e = refl

  count-cased : (case first : Option LetterCase) (value : List ℕ) → length (filter test (with_first first (with_case case value))) ≡ length (filter test value)
  count-cased case first value = count-with_first first (with_case case value) ∙ count-with_case case value

-- the number of characters is that of the value, whatever the cases of letters
pub characters-cased : (case first : Option LetterCase) (value : List ℕ) → character_count (with_first first (with_case case value)) ≡ character_count value
characters-cased case first value = count-cased (λ c. not (goes_on c)) in_case-goes_on case first value

-- the number of wild octets is the same in any case
pub wild-cased : (case first : Option LetterCase) (value : List ℕ) → length (filter is_wild (with_first first (with_case case value))) ≡ length (filter is_wild value)
wild-cased case first value = count-cased is_wild in_case-is_wild case first value

with_one : (b : Bool) (c : ℕ) (a d : List ℕ) (n : ℕ) → length a ≡ length d + n → length (cond b (c ∷ a) a) ≡ length (cond b (c ∷ d) d) + n
with_one true c a d n e = omega arith
with_one false c a d n e = e

-- An octet in front adds the characters that it counts itself. Where it is wild, its `\` adds one.
quoted_one : (wild : Bool) (c : ℕ) (cs : List ℕ) → character_count (flat_map quoted_wildcard cs) ≡ character_count cs + length (filter is_wild cs)
    → character_count ((if wild then octet_of "\\" ∷ c ∷ [] else c ∷ []) ++ flat_map quoted_wildcard cs) ≡ character_count (c ∷ cs) + length (cond wild (c ∷ filter is_wild cs) (filter is_wild cs))
quoted_one true c cs rest =
    let one = with_one (not (goes_on c)) c (filter (λ d. not (goes_on d)) (flat_map quoted_wildcard cs)) (filter (λ d. not (goes_on d)) cs) (length (filter is_wild cs)) rest in omega (arith, one)
quoted_one false c cs rest = with_one (not (goes_on c)) c (filter (λ d. not (goes_on d)) (flat_map quoted_wildcard cs)) (filter (λ d. not (goes_on d)) cs) (length (filter is_wild cs)) rest

-- a value whose wild octets are quoted has a character more for each of them
pub characters-quoted : (value : List ℕ) → character_count (flat_map quoted_wildcard value) ≡ character_count value + length (filter is_wild value)
characters-quoted [] = refl
characters-quoted (c ∷ cs) = quoted_one (is_wild c) c cs (characters-quoted cs)

-- rules of counts, for functions' attributes
pub ruleset counts = (length-filter, count_by-le-length, characters-cased, wild-cased, characters-quoted)

-- CUTS

cut-case : (n : ℕ) (case : Option LetterCase) (value : List ℕ) → take n (with_case case value) ≡ with_case case (take n value)
cut-case n None value = refl
cut-case n (Some one) value = take-map (in_case one) n value

cut-first : (n : ℕ) (case : Option LetterCase) (value : List ℕ) → take n (with_first case value) ≡ with_first case (take n value)
cut-first n None value = refl
cut-first zero (Some one) [] = refl
cut-first (suc n) (Some one) [] = refl
cut-first zero (Some one) (c ∷ cs) = refl
cut-first (suc n) (Some one) (c ∷ cs) = refl

-- the front of a value in some cases is the front of the value in these cases
pub cut-cased : (n : ℕ) (case first : Option LetterCase) (value : List ℕ) → take n (with_first first (with_case case value)) ≡ with_first first (with_case case (take n value))
cut-cased n case first value = cut-first n first (with_case case value) ∙ ap (with_first first) (cut-case n case value)

-- equal fronts stay equal with an octet before them
front-cons : (c k : ℕ) (a b : List ℕ) → ((m : ℕ) → m ≤ k → take m a ≡ take m b) → (n : ℕ) → n ≤ suc k → take n (c ∷ a) ≡ take n (c ∷ b)
front-cons c k a b all zero within = refl
front-cons c k a b all (suc n) within = ap (λ (l : List ℕ). c ∷ l) (all n (omega arith))

-- the front of a quoted value comes from the front of the value
pub front-quoted : (value : List ℕ) (k n : ℕ) → n ≤ k → take n (flat_map quoted_wildcard (take k value)) ≡ take n (flat_map quoted_wildcard value)
front-quoted [] zero n within = refl
front-quoted [] (suc k) n within = refl
front-quoted (c ∷ cs) zero zero within = refl
front-quoted (c ∷ cs) zero (suc n) within = absurd (omega arith)
front-quoted (c ∷ cs) (suc k) n within = by (is_wild c) (front-quoted cs k)
  where
    by : (wild : Bool) → ((m : ℕ) → m ≤ k → take m (flat_map quoted_wildcard (take k cs)) ≡ take m (flat_map quoted_wildcard cs))
        → take n ((if wild then octet_of "\\" ∷ c ∷ [] else c ∷ []) ++ flat_map quoted_wildcard (take k cs)) ≡ take n ((if wild then octet_of "\\" ∷ c ∷ [] else c ∷ []) ++ flat_map quoted_wildcard cs)
    by true all = front-cons (octet_of "\\") (suc k) _ _ (front-cons c k _ _ all) n (omega arith)
    by false all = front-cons c k _ _ all n within

-- no number of 64 bits has more digits than a value may have octets
pub digits_whole : (n : ℕ) → n < 2 ^ 64 → take value_limit (decimal n) ≡ decimal n
digits_whole n small = take_all 4096 (decimal n) (omega (arith, length-decimal-le 20 n (omega arith) (omega arith) small))

-- WHOLE VALUES

module _ (m : Modifiers) (value : List ℕ) where
  by_flags : Bool → Bool → List ℕ
  by_flags counted quoted = take value_limit (with_length counted (with_quotes quoted (with_first m.first_letter (with_case m.letter_case value))))

  flags-are : (counted quoted : Bool) → m.length ≡ counted → m.quote_wildcard ≡ quoted → by_flags counted quoted ≡ modified m value
  unfolding modified by_flags
  flags-are counted quoted l q = ap (λ b. by_flags b quoted) (sym l) ∙ ap (by_flags m.length) (sym q)

  -- a value modified without `:quotewildcard` and without `:length`
  pub modified-plain : m.length ≡ false → m.quote_wildcard ≡ false → with_first m.first_letter (with_case m.letter_case (take value_limit value)) ≡ modified m value
  unfolding by_flags
  modified-plain l q = sym (cut-cased value_limit m.letter_case m.first_letter value) ∙ flags-are false false l q

  -- a value modified with `:quotewildcard` and without `:length`
  pub modified-quoted : m.length ≡ false → m.quote_wildcard ≡ true → take value_limit (flat_map quoted_wildcard (with_first m.first_letter (with_case m.letter_case (take value_limit value)))) ≡ modified m value
  unfolding by_flags
  modified-quoted l q =
      ap (λ v. take value_limit (flat_map quoted_wildcard v)) (sym (cut-cased value_limit m.letter_case m.first_letter value))
      ∙ front-quoted (with_first m.first_letter (with_case m.letter_case value)) value_limit value_limit (omega arith)
      ∙ flags-are false true l q

  -- a value modified with `:length`
  pub modified-length : m.length ≡ true → take value_limit (decimal (character_count (with_quotes m.quote_wildcard (with_first m.first_letter (with_case m.letter_case value))))) ≡ modified m value
  unfolding by_flags
  modified-length l = flags-are true m.quote_wildcard l refl

-- rules of whole values, for functions' attributes
pub ruleset wholes = (modified-plain, modified-quoted, modified-length)
