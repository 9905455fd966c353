-- Numbers compared by their digits.
use Rattle.std.proofs.Common.{◌≡◌, ℕ, ◌*◌, ◌+◌, ◌-◌, ◌<◌, ◌≤◌, ◌==◌, ◌↔◌, Bool, true, false, if◌then◌else◌, List, [], ◌∷◌, length, Option, None, Some, ◌++◌, ◌^◌, decimal, refl, sym, ap, ◌∙◌, true≢false, arith}
use Rattle.std.specs.declared.cmp.Ordering.{Ordering}
use Rattle.std.specs.declared.cmp.Ordering.TheVariants.{Less, Equal, Greater}
use Rattle.std.specs.Cmp.{first_so, nat_cmp_is, ranks, second_so}
use Rattle.std.specs.Cmp.Lexicographic.{slice_cmp}
use Rattle.std.specs.Ordering.{MatchOrdering, nat_cmp, ordering_then}
use Rattle.std.specs.Option.{IsSome}
use Rattle.std.specs.Char.{digit_value}
use Rattle.std.specs.Str.Parse.{AllDigits, digits_value_after}
use Rattle.std.proofs.lemmas.Bool.{and_from, eqb-false, eqb-true, le-leb, leb-true}
use Rattle.std.proofs.lemmas.Fmt.{decimal_is_IsNumeral_wide}
use Rattle.std.proofs.lemmas.Str.{digit_value_digit}
use Rattle.std.proofs.lemmas.Str.Parse.{digit_from_value}
use Rattle.octets.specs.Octet.{is_digit, octet_of}
use Rattle.match_text.specs.Order.{decimal_from, first_digits, number_cmp, number_of, number_of_digits, order_of}
use Rattle.match_text.specs.declared.comparators.Collation.TheVariants.{Numeric}
use Rattle.match_text.specs.view.Digits.{digits_cmp, without_zeros}

-- DIGITS

-- each octet is a digit
abbrev pub AreDigits : List ℕ → Type 0
AreDigits [] = Unit {0}
AreDigits (b ∷ rest) = ((octet_of "0" ≤ b) × (b ≤ octet_of "9")) × AreDigits rest

-- no zero begins the digits
abbrev pub BeginsWithNoZero : List ℕ → Type 0
BeginsWithNoZero [] = Unit {0}
BeginsWithNoZero (b ∷ rest) = octet_of "0" < b

in_range : (b : ℕ) → is_digit b ≡ true → (octet_of "0" ≤ b) × (b ≤ octet_of "9")
in_range b is = (leb-true _ _ (first_so _ _ is), leb-true _ _ (second_so _ _ is))

-- the digits that a text begins with are digits
pub first_digits-digits : (text : List ℕ) → AreDigits (first_digits text)
first_digits-digits [] = tt
first_digits-digits (b ∷ rest) = by (is_digit b) refl (first_digits-digits rest)
  where
    by : (s : Bool) → is_digit b ≡ s → AreDigits (first_digits rest) → AreDigits (if s then b ∷ first_digits rest else [])
    by true is more = (in_range b is, more)
    by false is more = tt

-- WITHOUT ZEROS

without_zeros-digits : (digits : List ℕ) → AreDigits digits → AreDigits (without_zeros digits)
without_zeros-digits [] all = tt
without_zeros-digits (b ∷ rest) all = by (b == octet_of "0") (without_zeros-digits rest all.1)
  where
    by : (s : Bool) → AreDigits (without_zeros rest) → AreDigits (if s then without_zeros rest else b ∷ rest)
    by true more = more
    by false more = all

without_zeros-begin : (digits : List ℕ) → AreDigits digits → BeginsWithNoZero (without_zeros digits)
without_zeros-begin [] all = tt
without_zeros-begin (b ∷ rest) all = by (b == octet_of "0") refl (without_zeros-begin rest all.1)
  where
    by : (s : Bool) → (b == octet_of "0") ≡ s → BeginsWithNoZero (without_zeros rest)
        → BeginsWithNoZero (if s then without_zeros rest else b ∷ rest)
    by true is more = more
    by false is more = let other = eqb-false b (octet_of "0") is in omega arith

-- zeros at the start of digits don't count
without_zeros-value : (digits : List ℕ) → decimal_from 0 (without_zeros digits) ≡ decimal_from 0 digits
without_zeros-value [] = refl
without_zeros-value (b ∷ rest) = by (b == octet_of "0") refl (without_zeros-value rest)
  where
    by : (s : Bool) → (b == octet_of "0") ≡ s → decimal_from 0 (without_zeros rest) ≡ decimal_from 0 rest
        → decimal_from 0 (if s then without_zeros rest else b ∷ rest) ≡ decimal_from 0 (b ∷ rest)
    by true is more =
        let zero_digit = eqb-true b (octet_of "0") is in
        let nothing : 0 ≡ 10 * 0 + (b - octet_of "0") = omega arith in
        more ∙ ap (λ n. decimal_from n rest) nothing
    by false is more = refl

-- THE ORDER

-- a number that is less before its digits is less after them, if the other has at least as many
less_after : (m n : ℕ) (a b : List ℕ) → AreDigits a → m < n → length a ≤ length b → decimal_from m a < decimal_from n b
less_after m n [] [] all below short = below
less_after m n [] (y ∷ b) all below short = less_after m (10 * n + (y - octet_of "0")) [] b tt (omega arith) (omega arith)
less_after m n (x ∷ a) [] all below short = absurd (omega arith)
less_after m n (x ∷ a) (y ∷ b) all below short =
    less_after (10 * m + (x - octet_of "0")) (10 * n + (y - octet_of "0")) a b all.1 (omega arith) (omega arith)

-- the number of more digits is greater if no zero begins them
longer : (a b : List ℕ) → AreDigits a → BeginsWithNoZero b → length a < length b → decimal_from 0 a < decimal_from 0 b
longer a [] all begins short = absurd (omega arith)
longer a (y ∷ b) all begins short = less_after 0 (10 * 0 + (y - octet_of "0")) a b all (omega arith) (omega arith)

-- numbers of as many digits are in the order of the first that differ
as_long : (n : ℕ) (a b : List ℕ) → AreDigits a → AreDigits b → length a ≡ length b
    → slice_cmp nat_cmp a b ≡ nat_cmp (decimal_from n a) (decimal_from n b)
as_long n [] [] all others e = nat_cmp_is n n Equal refl
as_long n [] (y ∷ b) all others e = absurd (omega arith)
as_long n (x ∷ a) [] all others e = absurd (omega arith)
as_long n (x ∷ a) (y ∷ b) all others e =
    by (nat_cmp x y) (ranks x y) (as_long (10 * n + (x - octet_of "0")) a b all.1 others.1 (omega arith))
  where
    by : (o : Ordering) → MatchOrdering o (x < y) (x ≡ y) (y < x)
        → slice_cmp nat_cmp a b ≡ nat_cmp (decimal_from (10 * n + (x - octet_of "0")) a) (decimal_from (10 * n + (x - octet_of "0")) b)
        → ordering_then o (slice_cmp nat_cmp a b)
        ≡ nat_cmp (decimal_from (10 * n + (x - octet_of "0")) a) (decimal_from (10 * n + (y - octet_of "0")) b)
    by Less is more =
        nat_cmp_is _ _ Less (less_after (10 * n + (x - octet_of "0")) (10 * n + (y - octet_of "0")) a b all.1 (omega arith) (omega arith))
    by Equal is more =
        more ∙ ap (λ k. nat_cmp (decimal_from (10 * n + (x - octet_of "0")) a) (decimal_from (10 * n + (k - octet_of "0")) b)) is
    by Greater is more =
        nat_cmp_is _ _ Greater (less_after (10 * n + (y - octet_of "0")) (10 * n + (x - octet_of "0")) b a others.1 (omega arith) (omega arith))

-- digits that begin with no zero are in the order of their numbers
digits_cmp-values : (a b : List ℕ) → AreDigits a → AreDigits b → BeginsWithNoZero a → BeginsWithNoZero b
    → digits_cmp a b ≡ nat_cmp (decimal_from 0 a) (decimal_from 0 b)
digits_cmp-values a b all others plain plain_too = by (nat_cmp (length a) (length b)) (ranks (length a) (length b))
  where
    by : (o : Ordering) → MatchOrdering o (length a < length b) (length a ≡ length b) (length b < length a)
        → ordering_then o (slice_cmp nat_cmp a b) ≡ nat_cmp (decimal_from 0 a) (decimal_from 0 b)
    by Less is = nat_cmp_is _ _ Less (longer a b all plain_too is)
    by Equal is = as_long 0 a b all others is
    by Greater is = nat_cmp_is _ _ Greater (longer b a others plain is)

-- NUMBERS OF TEXTS

-- digits have their value
finite : (digits : List ℕ) → false ≡ (length digits == 0) → number_of_digits digits ≡ Some (decimal_from 0 digits)
finite [] none = absurd (true≢false (sym none))
finite (b ∷ rest) some = refl

-- two numbers are in the order of their digits without the zeros that begin them
pub digits_cmp-numbers : (a b : List ℕ) → false ≡ (length (first_digits a) == 0) → false ≡ (length (first_digits b) == 0)
    → digits_cmp (without_zeros (first_digits a)) (without_zeros (first_digits b)) ≡ number_cmp (number_of a) (number_of b)
digits_cmp-numbers a b some some_too =
    let m = first_digits a in
    let n = first_digits b in
    let all = first_digits-digits a in
    let others = first_digits-digits b in
    digits_cmp-values (without_zeros m) (without_zeros n) (without_zeros-digits m all) (without_zeros-digits n others)
    (without_zeros-begin m all) (without_zeros-begin n others)
    ∙ (λ i. nat_cmp (without_zeros-value m i) (without_zeros-value n i))
    ∙ sym (λ i. number_cmp (finite m some i) (finite n some_too i))

-- LAWS

digits_again : (text : List ℕ) → first_digits (first_digits text) ≡ first_digits text
digits_again [] = refl
digits_again (b ∷ rest) = by (is_digit b) refl (digits_again rest)
  where
    by : (s : Bool) → is_digit b ≡ s → first_digits (first_digits rest) ≡ first_digits rest
        → first_digits (if s then b ∷ first_digits rest else []) ≡ (if s then b ∷ first_digits rest else [])
    by true is more = λ i. if is i then b ∷ more i else []
    by false is more = refl

-- a number is that of its first digits
pub number_of-digits : (text : List ℕ) → number_of (first_digits text) ≡ number_of text
number_of-digits text = ap number_of_digits (digits_again text)

zero_before : (digits : List ℕ) → IsSome (number_of_digits digits) → number_of_digits (octet_of "0" ∷ digits) ≡ number_of_digits digits
zero_before [] some = absurd (true≢false (sym some))
zero_before (b ∷ rest) some = refl

-- a zero before a number doesn't count
pub number_of-zero : (text : List ℕ) → IsSome (number_of text) → number_of (octet_of "0" ∷ text) ≡ number_of text
number_of-zero text some = zero_before (first_digits text) some

no_digits : (digits : List ℕ) → (number_of_digits digits ≡ None) ↔ (digits ≡ [])
no_digits [] = (λ is. refl, λ is. refl)
no_digits (b ∷ rest) = (λ is. absurd cc, λ is. absurd cc)

-- a text is infinite exactly if it begins with no digit
pub number_of-none : (text : List ℕ) → (number_of text ≡ None) ↔ (first_digits text ≡ [])
number_of-none text = no_digits (first_digits text)

-- texts are in the order of their numbers
pub order_of-numbers : (a b : List ℕ) (m n : Option ℕ) → number_of a ≡ m → number_of b ≡ n → order_of Numeric a b ≡ number_cmp m n
order_of-numbers a b m n first second = λ i. number_cmp (first i) (second i)

-- DECIMAL TEXTS

digits_before : (digits rest : List ℕ) → AllDigits 10 digits → first_digits rest ≡ [] → first_digits (digits ++ rest) ≡ digits
digits_before [] rest all none = none
digits_before (b ∷ digits) rest all none =
    let range = digit_from_value b all.0 in
    let is : is_digit b ≡ true = and_from _ _ (le-leb _ _ range.0) (le-leb _ _ (omega arith)) in
    λ i. if is i then b ∷ digits_before digits rest all.1 none i else []

same_value : (n : ℕ) (digits : List ℕ) → AllDigits 10 digits → decimal_from n digits ≡ digits_value_after 10 n digits
same_value n [] all = refl
same_value n (b ∷ digits) all =
    let value = digit_value_digit b (digit_from_value b all.0) in
    let next : 10 * n + (b - octet_of "0") ≡ n * 10 + digit_value b = omega arith in
    ap (λ m. decimal_from m digits) next ∙ same_value (n * 10 + digit_value b) digits all.1

of_filled : (digits : List ℕ) → 0 < length digits → number_of_digits digits ≡ Some (decimal_from 0 digits)
of_filled [] filled = absurd (omega arith)
of_filled (b ∷ digits) filled = refl

-- A decimal text of at most 64 digits stands for its number. So it does with a text after it that
-- begins with no digit.
pub number_of-decimal : (n : ℕ) (rest : List ℕ) → n < 10 ^ 64 → first_digits rest ≡ [] → number_of (decimal n ++ rest) ≡ Some n
number_of-decimal n rest small none =
    let numeral = decimal_is_IsNumeral_wide n small in
    ap number_of_digits (digits_before (decimal n) rest numeral.0.1 none)
    ∙ of_filled (decimal n) numeral.0.0
    ∙ ap Some (same_value 0 (decimal n) numeral.0.1 ∙ numeral.1)
