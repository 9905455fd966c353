-- Digits are read as the number that they show.
use Rattle.std.proofs.Common.{◌≡◌, ℕ, ◌+◌, ◌-◌, ◌*◌, ◌/◌, ◌%◌, ◌<◌, ◌≤◌, true, cond, ◌++◌, Some, None, nat_le, ap, ◌∙◌, arith, pos}
use Rattle.std.specs.Option.{option_and_then, option_map}
use Rattle.std.proofs.lemmas.Bool.Decides.{nat_tests}
use Rattle.jiff_core.specs.Calendar.{days_in_month}
use Rattle.octets.specs.Octet.{is_between, octet_of}
use Rattle.date_text.specs.Calendar.{CivilDate, IsInCalendar, date_of}
use Rattle.date_text.specs.Number.{digit, digit_number, four_digits, four_number, pair_number, two_digits, up_to}
use Rattle.date_text.specs.Reading.{pair_of_word, year_of_word}
use Rattle.date_text.specs.Zone.{zone_minutes}
use Rattle.date_text.proofs.PlainLemmas.{digit_is}

-- NUMBERS

pub digit_number-digit : (n : ℕ) → n < 10 → digit_number (digit n) ≡ Some n
digit_number-digit n h =
    let back : digit n - octet_of "0" ≡ n = omega arith in
    ap (λ b. cond b (Some (digit n - octet_of "0")) None) (digit_is n h) ∙ ap Some back

pub pair_number-digits : (n : ℕ) → n < 100 → pair_number (digit (n / 10)) (digit (n % 10)) ≡ Some n
pair_number-digits n h =
    let whole : 10 * (n / 10) + n % 10 ≡ n = omega arith in
    ap (λ o. option_and_then (λ high. option_map (λ low. 10 * high + low) (digit_number (digit (n % 10)))) o) (digit_number-digit (n / 10) (omega arith))
    ∙ ap (λ o. option_map (λ low. 10 * (n / 10) + low) o) (digit_number-digit (n % 10) (omega arith))
    ∙ ap Some whole

pub four_number-digits : (n : ℕ) → n < 10000 → four_number (digit (n / 100 / 10)) (digit (n / 100 % 10)) (digit (n % 100 / 10)) (digit (n % 100 % 10)) ≡ Some n
four_number-digits n h =
    let whole : 100 * (n / 100) + n % 100 ≡ n = omega arith in
    ap (λ o. option_and_then (λ high. option_map (λ low. 100 * high + low) (pair_number (digit (n % 100 / 10)) (digit (n % 100 % 10)))) o) (pair_number-digits (n / 100) (omega arith))
    ∙ ap (λ o. option_map (λ low. 100 * (n / 100) + low) o) (pair_number-digits (n % 100) (omega arith))
    ∙ ap Some whole

pub up_to-within : (limit n : ℕ) → n ≤ limit → up_to limit (Some n) ≡ Some n
up_to-within limit n h = let within : nat_le n limit ≡ true = grind (arith, nat_tests) in ap (λ b. cond b (Some n) None) within

pub pair_of_word-digits : (limit n : ℕ) → n ≤ limit → n < 100 → pair_of_word limit (two_digits n) ≡ Some n
pair_of_word-digits limit n within h = ap (up_to limit) (pair_number-digits n h) ∙ up_to-within limit n within

pub year_of_word-digits : (n : ℕ) → 1900 ≤ n → n < 10000 → year_of_word (four_digits n) ≡ Some n
year_of_word-digits n late h =
    let is : nat_le 1900 n ≡ true = grind (arith, nat_tests) in
    ap (λ o. option_and_then (λ year. cond (nat_le 1900 year) (Some year) None) o) (four_number-digits n h) ∙ ap (λ b. cond b (Some n) None) is

pub date_of-calendar : (date : CivilDate) → IsInCalendar date → date_of date.year date.month date.day ≡ Some date
date_of-calendar date h =
    let low = h.2.0 in
    let high = h.2.1 in
    let within : is_between 1 (days_in_month (pos date.year) date.month) date.day ≡ true = grind (arith, nat_tests) in
    ap (λ b. cond b (Some date) None) within

pub zone_minutes-digits : (n : ℕ) → n ≤ 5999 → zone_minutes (two_digits (n / 60) ++ two_digits (n % 60)) ≡ Some n
zone_minutes-digits n h =
    let whole : 60 * (n / 60) + n % 60 ≡ n = omega arith in
    ap (λ o. option_and_then (λ hours. option_map (λ minutes. 60 * hours + minutes) (up_to 59 (pair_number (digit (n % 60 / 10)) (digit (n % 60 % 10))))) o) (pair_number-digits (n / 60) (omega arith))
    ∙ ap (λ o. option_map (λ minutes. 60 * (n / 60) + minutes) (up_to 59 o)) (pair_number-digits (n % 60) (omega arith))
    ∙ ap (λ o. option_map (λ minutes. 60 * (n / 60) + minutes) o) (up_to-within 59 (n % 60) (omega arith))
    ∙ ap Some whole
