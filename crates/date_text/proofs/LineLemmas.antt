-- The words of a line that shows a date and a time.
use Rattle.std.proofs.Common.{◌≡◌, ℕ, zero, suc, ◌/◌, ◌%◌, ◌<◌, ◌≤◌, Bool, true, false, List, [], ◌∷◌, ◌++◌, Some, refl, sym, subst, ap, ◌∙◌, arith, codes}
use Rattle.std.specs.List.{list_all, onto_first}
use Rattle.std.specs.Option.{option_map}
use Rattle.std.proofs.lemmas.Bool.{and_from}
use Rattle.octets.specs.Octet.{is_digit, octet_of}
use Rattle.date_text.specs.Number.{digit, four_digits, two_digits}
use Rattle.date_text.specs.Reading.{is_weekday, month_number}
use Rattle.date_text.specs.Shown.{month_name, weekday_name}
use Rattle.date_text.specs.Words.{DateWord, is_joined_to, is_letter, words_of}
use Rattle.date_text.specs.Zone.{Zone, zone_named, zone_of_sign, zone_sign, zone_text}
use Rattle.date_text.proofs.WordLemmas.{words_alone, words_joined, words_white}
use Rattle.date_text.proofs.PlainLemmas.{digit_apart, digit_is, digit_not_white, digit_plain, digits_joined, is_plain, letter_apart, letter_not_white, letter_plain, letters_joined, plain_append}
use Rattle.date_text.proofs.NumberLemmas.{zone_minutes-digits}

-- WORDS

-- three letters before an octet that is no letter
pub words_name : (a b c x : ℕ) (rest : List ℕ) → is_letter a ≡ true → is_letter b ≡ true → is_letter c ≡ true → is_letter x ≡ false → words_of (a ∷ b ∷ c ∷ x ∷ rest) ≡ (a ∷ b ∷ c ∷ []) ∷ words_of (x ∷ rest)
words_name a b c x rest one two three none =
    words_joined a (b ∷ c ∷ x ∷ rest) (letter_not_white a one) (letters_joined a b one two)
    ∙ ap (onto_first a) (words_joined b (c ∷ x ∷ rest) (letter_not_white b two) (letters_joined b c two three)
    ∙ ap (onto_first b) (words_alone c (x ∷ rest) (letter_not_white c three) (letter_apart c x three none)))

-- digits before an octet that is no digit
pub words_pair : (a b : ℕ) (rest : List ℕ) → is_digit a ≡ true → is_digit b ≡ true → is_joined_to b rest ≡ false → words_of (a ∷ b ∷ rest) ≡ (a ∷ b ∷ []) ∷ words_of rest
words_pair a b rest one two none =
    words_joined a (b ∷ rest) (digit_not_white a one) (digits_joined a b one two)
    ∙ ap (onto_first a) (words_alone b rest (digit_not_white b two) none)

pub words_four : (a b c d : ℕ) (rest : List ℕ) → is_digit a ≡ true → is_digit b ≡ true → is_digit c ≡ true → is_digit d ≡ true → is_joined_to d rest ≡ false → words_of (a ∷ b ∷ c ∷ d ∷ rest) ≡ (a ∷ b ∷ c ∷ d ∷ []) ∷ words_of rest
words_four a b c d rest one two three four none =
    words_joined a (b ∷ c ∷ d ∷ rest) (digit_not_white a one) (digits_joined a b one two)
    ∙ ap (onto_first a) (words_joined b (c ∷ d ∷ rest) (digit_not_white b two) (digits_joined b c two three)
    ∙ ap (onto_first b) (words_pair c d rest three four none))

pub high : (n : ℕ) → n < 100 → is_digit (digit (n / 10)) ≡ true
high n h = digit_is (n / 10) (omega arith)

pub low : (n : ℕ) → is_digit (digit (n % 10)) ≡ true
low n = digit_is (n % 10) (omega arith)

pub two_words : (n x : ℕ) (rest : List ℕ) → n < 100 → is_digit x ≡ false → words_of (two_digits n ++ x ∷ rest) ≡ two_digits n ∷ words_of (x ∷ rest)
two_words n x rest h none =
    words_pair (digit (n / 10)) (digit (n % 10)) (x ∷ rest) (high n h) (low n) (digit_apart (digit (n % 10)) x (low n) none)

pub four_words : (n x : ℕ) (rest : List ℕ) → n < 10000 → is_digit x ≡ false → words_of (four_digits n ++ x ∷ rest) ≡ four_digits n ∷ words_of (x ∷ rest)
four_words n x rest h none =
    words_four (digit (n / 100 / 10)) (digit (n / 100 % 10)) (digit (n % 100 / 10)) (digit (n % 100 % 10)) (x ∷ rest)
    (high (n / 100) (omega arith)) (low (n / 100)) (high (n % 100) (omega arith)) (low (n % 100)) (digit_apart (digit (n % 100 % 10)) x (low (n % 100)) none)

pub last_words : (a b : ℕ) → a < 100 → b < 100 → words_of (two_digits a ++ two_digits b) ≡ (two_digits a ++ two_digits b) ∷ []
unfolding words_of
last_words a b one two = words_four (digit (a / 10)) (digit (a % 10)) (digit (b / 10)) (digit (b % 10)) [] (high a one) (low a) (high b two) (low b) refl

-- NAMES

-- a name of three letters
pub record IsName (name : List ℕ) : Type 0 where
  pub a : ℕ
  pub b : ℕ
  pub c : ℕ
  pub is : name ≡ a ∷ b ∷ c ∷ []
  pub first : is_letter a ≡ true
  pub second : is_letter b ≡ true
  pub third : is_letter c ≡ true

abbrev pub NamesWeekday : List ℕ → Type 0
NamesWeekday name = IsName name × (is_weekday name ≡ true)

pub weekday_case : (w : ℕ) → w < 7 → NamesWeekday (weekday_name w)
weekday_case zero h = (record { a = 83; b = 117; c = 110; is = refl; first = refl; second = refl; third = refl }, refl)
weekday_case (suc zero) h = (record { a = 77; b = 111; c = 110; is = refl; first = refl; second = refl; third = refl }, refl)
weekday_case (suc (suc zero)) h = (record { a = 84; b = 117; c = 101; is = refl; first = refl; second = refl; third = refl }, refl)
weekday_case (suc (suc (suc zero))) h = (record { a = 87; b = 101; c = 100; is = refl; first = refl; second = refl; third = refl }, refl)
weekday_case (suc (suc (suc (suc zero)))) h = (record { a = 84; b = 104; c = 117; is = refl; first = refl; second = refl; third = refl }, refl)
weekday_case (suc (suc (suc (suc (suc zero))))) h = (record { a = 70; b = 114; c = 105; is = refl; first = refl; second = refl; third = refl }, refl)
weekday_case (suc (suc (suc (suc (suc (suc zero)))))) h = (record { a = 83; b = 97; c = 116; is = refl; first = refl; second = refl; third = refl }, refl)
weekday_case (suc (suc (suc (suc (suc (suc (suc w))))))) h = absurd (omega arith)

abbrev pub NamesMonth : ℕ → List ℕ → Type 0
NamesMonth m name = IsName name × (month_number name ≡ Some m)

pub month_case : (m : ℕ) → 1 ≤ m → m ≤ 12 → NamesMonth m (month_name m)
month_case zero low high = absurd (omega arith)
month_case (suc zero) low high = (record { a = 74; b = 97; c = 110; is = refl; first = refl; second = refl; third = refl }, refl)
month_case (suc (suc zero)) low high = (record { a = 70; b = 101; c = 98; is = refl; first = refl; second = refl; third = refl }, refl)
month_case (suc (suc (suc zero))) low high = (record { a = 77; b = 97; c = 114; is = refl; first = refl; second = refl; third = refl }, refl)
month_case (suc (suc (suc (suc zero)))) low high = (record { a = 65; b = 112; c = 114; is = refl; first = refl; second = refl; third = refl }, refl)
month_case (suc (suc (suc (suc (suc zero))))) low high = (record { a = 77; b = 97; c = 121; is = refl; first = refl; second = refl; third = refl }, refl)
month_case (suc (suc (suc (suc (suc (suc zero)))))) low high = (record { a = 74; b = 117; c = 110; is = refl; first = refl; second = refl; third = refl }, refl)
month_case (suc (suc (suc (suc (suc (suc (suc zero))))))) low high = (record { a = 74; b = 117; c = 108; is = refl; first = refl; second = refl; third = refl }, refl)
month_case (suc (suc (suc (suc (suc (suc (suc (suc zero)))))))) low high = (record { a = 65; b = 117; c = 103; is = refl; first = refl; second = refl; third = refl }, refl)
month_case (suc (suc (suc (suc (suc (suc (suc (suc (suc zero))))))))) low high = (record { a = 83; b = 101; c = 112; is = refl; first = refl; second = refl; third = refl }, refl)
month_case (suc (suc (suc (suc (suc (suc (suc (suc (suc (suc zero)))))))))) low high = (record { a = 79; b = 99; c = 116; is = refl; first = refl; second = refl; third = refl }, refl)
month_case (suc (suc (suc (suc (suc (suc (suc (suc (suc (suc (suc zero))))))))))) low high = (record { a = 78; b = 111; c = 118; is = refl; first = refl; second = refl; third = refl }, refl)
month_case (suc (suc (suc (suc (suc (suc (suc (suc (suc (suc (suc (suc zero)))))))))))) low high = (record { a = 68; b = 101; c = 99; is = refl; first = refl; second = refl; third = refl }, refl)
month_case (suc (suc (suc (suc (suc (suc (suc (suc (suc (suc (suc (suc (suc m))))))))))))) low high = absurd (omega arith)

-- ZONES

abbrev pub zone_of : Bool → ℕ → Zone
zone_of w n = record { west = w; minutes = n }

-- the words of a zone, and the zone that they are read as
pub zone_is_read : (w : Bool) (n : ℕ) → n ≤ 5999 → (words_of (zone_text (zone_of w n)) ≡ (zone_sign (zone_of w n) ∷ []) ∷ (two_digits (n / 60) ++ two_digits (n % 60)) ∷ []) × (zone_of_sign (zone_sign (zone_of w n)) (two_digits (n / 60) ++ two_digits (n % 60)) ≡ Some (zone_of w n))
zone_is_read true n h = (
  words_alone (octet_of "-") (two_digits (n / 60) ++ two_digits (n % 60)) refl refl ∙ ap (λ words. (octet_of "-" ∷ []) ∷ words) (last_words (n / 60) (n % 60) (omega arith) (omega arith)),
  ap (option_map (λ minutes. zone_of true minutes)) (zone_minutes-digits n h),
)
zone_is_read false n h = (
  words_alone (octet_of "+") (two_digits (n / 60) ++ two_digits (n % 60)) refl refl ∙ ap (λ words. (octet_of "+" ∷ []) ∷ words) (last_words (n / 60) (n % 60) (omega arith) (omega arith)),
  ap (option_map (λ minutes. zone_of false minutes)) (zone_minutes-digits n h),
)

pub zone_is_named : (zone : Zone) → zone.minutes ≤ 5999 → zone_named (zone_text zone) ≡ Some zone
zone_is_named zone h = (zone_is_read zone.west zone.minutes h).1

-- THE WORDS OF A LINE

pub begin_words : (a b c : ℕ) (rest : List ℕ) → is_letter a ≡ true → is_letter b ≡ true → is_letter c ≡ true → words_of (a ∷ b ∷ c ∷ octet_of "," ∷ octet_of " " ∷ rest) ≡ (a ∷ b ∷ c ∷ []) ∷ (octet_of "," ∷ []) ∷ words_of rest
begin_words a b c rest one two three =
    words_name a b c (octet_of ",") (octet_of " " ∷ rest) one two three refl
    ∙ ap (λ words. (a ∷ b ∷ c ∷ []) ∷ words) (words_alone (octet_of ",") (octet_of " " ∷ rest) refl refl
    ∙ ap (λ words. (octet_of "," ∷ []) ∷ words) (words_white (octet_of " ") rest refl))

pub name_words : (a b c : ℕ) (rest : List ℕ) → is_letter a ≡ true → is_letter b ≡ true → is_letter c ≡ true → words_of (a ∷ b ∷ c ∷ octet_of " " ∷ rest) ≡ (a ∷ b ∷ c ∷ []) ∷ words_of rest
name_words a b c rest one two three =
    words_name a b c (octet_of " ") rest one two three refl
    ∙ ap (λ words. (a ∷ b ∷ c ∷ []) ∷ words) (words_white (octet_of " ") rest refl)

pub pair_words : (n : ℕ) (rest : List ℕ) → n < 100 → words_of (two_digits n ++ octet_of " " ∷ rest) ≡ two_digits n ∷ words_of rest
pair_words n rest h =
    two_words n (octet_of " ") rest h refl ∙ ap (λ words. two_digits n ∷ words) (words_white (octet_of " ") rest refl)

pub year_words : (n : ℕ) (rest : List ℕ) → n < 10000 → words_of (four_digits n ++ octet_of " " ∷ rest) ≡ four_digits n ∷ words_of rest
year_words n rest h =
    four_words n (octet_of " ") rest h refl ∙ ap (λ words. four_digits n ∷ words) (words_white (octet_of " ") rest refl)

pub colon_words : (n : ℕ) (rest : List ℕ) → n < 100 → words_of (two_digits n ++ octet_of ":" ∷ rest) ≡ two_digits n ∷ (octet_of ":" ∷ []) ∷ words_of rest
colon_words n rest h =
    two_words n (octet_of ":") rest h refl ∙ ap (λ words. two_digits n ∷ words) (words_alone (octet_of ":") rest refl (not_joined rest))
  where
    not_joined : (rest : List ℕ) → is_joined_to (octet_of ":") rest ≡ false
    not_joined [] = refl
    not_joined (c ∷ rest) = refl

pub time_words : (h m s : ℕ) (rest : List ℕ) → h < 100 → m < 100 → s < 100 → words_of (two_digits h ++ octet_of ":" ∷ two_digits m ++ octet_of ":" ∷ two_digits s ++ octet_of " " ∷ rest) ≡ two_digits h ∷ (octet_of ":" ∷ []) ∷ two_digits m ∷ (octet_of ":" ∷ []) ∷ two_digits s ∷ words_of rest
time_words h m s rest one two three =
    colon_words h (two_digits m ++ octet_of ":" ∷ two_digits s ++ octet_of " " ∷ rest) one
    ∙ ap (λ words. two_digits h ∷ (octet_of ":" ∷ []) ∷ words) (colon_words m (two_digits s ++ octet_of " " ∷ rest) two
    ∙ ap (λ words. two_digits m ∷ (octet_of ":" ∷ []) ∷ words) (pair_words s rest three))

pub day_words : (d y a b c : ℕ) (rest : List ℕ) → d < 100 → y < 10000 → is_letter a ≡ true → is_letter b ≡ true → is_letter c ≡ true → words_of (two_digits d ++ octet_of " " ∷ a ∷ b ∷ c ∷ octet_of " " ∷ four_digits y ++ octet_of " " ∷ rest) ≡ two_digits d ∷ (a ∷ b ∷ c ∷ []) ∷ four_digits y ∷ words_of rest
day_words d y a b c rest day year one two three =
    pair_words d (a ∷ b ∷ c ∷ octet_of " " ∷ four_digits y ++ octet_of " " ∷ rest) day
    ∙ ap (λ words. two_digits d ∷ words) (name_words a b c (four_digits y ++ octet_of " " ∷ rest) one two three
    ∙ ap (λ words. (a ∷ b ∷ c ∷ []) ∷ words) (year_words y rest year))

-- a date and a time, by the names of the weekday and of the month
abbrev pub line : (weekday month : List ℕ) (d y h m s : ℕ) (zone : List ℕ) → List ℕ
line weekday month d y h m s zone =
    (weekday ++ codes ", " ++ two_digits d ++ codes " " ++ month ++ codes " " ++ four_digits y) ++ codes " " ++ (two_digits h ++ codes ":" ++ two_digits m ++ codes ":" ++ two_digits s) ++ codes " " ++ zone

abbrev pub line_words : (weekday month : List ℕ) (d y h m s : ℕ) (zone : List DateWord) → List DateWord
line_words weekday month d y h m s zone =
    weekday ∷ codes "," ∷ two_digits d ∷ month ∷ four_digits y ∷ two_digits h ∷ codes ":" ∷ two_digits m ∷ codes ":" ∷ two_digits s ∷ zone

pub record AreShort (d y h m s : ℕ) : Type 0 where
  pub day : d < 100
  pub year : y < 10000
  pub hour : h < 100
  pub minute : m < 100
  pub second : s < 100

pub words_spelled : (a b c k l n : ℕ) (d y h m s : ℕ) (zone : List ℕ) → is_letter a ≡ true → is_letter b ≡ true → is_letter c ≡ true → is_letter k ≡ true → is_letter l ≡ true → is_letter n ≡ true → AreShort d y h m s → words_of (line (a ∷ b ∷ c ∷ []) (k ∷ l ∷ n ∷ []) d y h m s zone) ≡ line_words (a ∷ b ∷ c ∷ []) (k ∷ l ∷ n ∷ []) d y h m s (words_of zone)
words_spelled a b c k l n d y h m s zone a_is b_is c_is k_is l_is n_is short =
    let time = two_digits h ++ octet_of ":" ∷ two_digits m ++ octet_of ":" ∷ two_digits s ++ octet_of " " ∷ zone in
    begin_words a b c (two_digits d ++ octet_of " " ∷ k ∷ l ∷ n ∷ octet_of " " ∷ four_digits y ++ octet_of " " ∷ time) a_is b_is c_is
    ∙ ap (λ words. (a ∷ b ∷ c ∷ []) ∷ codes "," ∷ words) (day_words d y k l n time short.day short.year k_is l_is n_is
    ∙ ap (λ words. two_digits d ∷ (k ∷ l ∷ n ∷ []) ∷ four_digits y ∷ words) (time_words h m s zone short.hour short.minute short.second))

pub words_of-line : (weekday month : List ℕ) (d y h m s : ℕ) (zone : List ℕ) → IsName weekday → IsName month → AreShort d y h m s → words_of (line weekday month d y h m s zone) ≡ line_words weekday month d y h m s (words_of zone)
words_of-line weekday month d y h m s zone first second short =
    subst (λ name. words_of (line name month d y h m s zone) ≡ line_words name month d y h m s (words_of zone)) (sym first.is)
    (subst (λ name. words_of (line (first.a ∷ first.b ∷ first.c ∷ []) name d y h m s zone) ≡ line_words (first.a ∷ first.b ∷ first.c ∷ []) name d y h m s (words_of zone)) (sym second.is)
    (words_spelled first.a first.b first.c second.a second.b second.c d y h m s zone first.first first.second first.third second.first second.second second.third short))

-- A LINE IS PLAIN

pub name_plain : (name : List ℕ) → IsName name → list_all is_plain name ≡ true
name_plain name h =
    ap (list_all is_plain) h.is
    ∙ and_from (is_plain h.a) (list_all is_plain (h.b ∷ h.c ∷ [])) (letter_plain h.a h.first) (and_from (is_plain h.b) (list_all is_plain (h.c ∷ [])) (letter_plain h.b h.second) (and_from (is_plain h.c) true (letter_plain h.c h.third) refl))

pub pair_plain : (n : ℕ) → n < 100 → list_all is_plain (two_digits n) ≡ true
pair_plain n h =
    and_from (is_plain (digit (n / 10))) (list_all is_plain (digit (n % 10) ∷ [])) (digit_plain (digit (n / 10)) (high n h)) (and_from (is_plain (digit (n % 10))) true (digit_plain (digit (n % 10)) (low n)) refl)

pub four_plain : (n : ℕ) → n < 10000 → list_all is_plain (four_digits n) ≡ true
four_plain n h = plain_append (two_digits (n / 100)) (two_digits (n % 100)) (pair_plain (n / 100) (omega arith)) (pair_plain (n % 100) (omega arith))

pub sign_plain : (w : Bool) (n : ℕ) → is_plain (zone_sign (zone_of w n)) ≡ true
sign_plain true n = refl
sign_plain false n = refl

pub zone_plain : (w : Bool) (n : ℕ) → n ≤ 5999 → list_all is_plain (zone_text (zone_of w n)) ≡ true
zone_plain w n h =
    and_from (is_plain (zone_sign (zone_of w n))) (list_all is_plain (two_digits (n / 60) ++ two_digits (n % 60))) (sign_plain w n)
    (plain_append (two_digits (n / 60)) (two_digits (n % 60)) (pair_plain (n / 60) (omega arith)) (pair_plain (n % 60) (omega arith)))

pub line_plain : (weekday month : List ℕ) (d y h m s : ℕ) (zone : List ℕ) → IsName weekday → IsName month → AreShort d y h m s → list_all is_plain zone ≡ true → list_all is_plain (line weekday month d y h m s zone) ≡ true
line_plain weekday month d y h m s zone first second short last =
    let date1 = plain_append weekday (codes ", ") (name_plain weekday first) refl in
    let date2 = plain_append (weekday ++ codes ", ") (two_digits d) date1 (pair_plain d short.day) in
    let date3 = plain_append (weekday ++ codes ", " ++ two_digits d) (codes " ") date2 refl in
    let date4 = plain_append (weekday ++ codes ", " ++ two_digits d ++ codes " ") month date3 (name_plain month second) in
    let date5 = plain_append (weekday ++ codes ", " ++ two_digits d ++ codes " " ++ month) (codes " ") date4 refl in
    let date6 = plain_append (weekday ++ codes ", " ++ two_digits d ++ codes " " ++ month ++ codes " ") (four_digits y) date5 (four_plain y short.year) in
    let time1 = plain_append (two_digits h) (codes ":") (pair_plain h short.hour) refl in
    let time2 = plain_append (two_digits h ++ codes ":") (two_digits m) time1 (pair_plain m short.minute) in
    let time3 = plain_append (two_digits h ++ codes ":" ++ two_digits m) (codes ":") time2 refl in
    let time4 = plain_append (two_digits h ++ codes ":" ++ two_digits m ++ codes ":") (two_digits s) time3 (pair_plain s short.second) in
    let whole1 = plain_append (weekday ++ codes ", " ++ two_digits d ++ codes " " ++ month ++ codes " " ++ four_digits y) (codes " ") date6 refl in
    let whole2 = plain_append ((weekday ++ codes ", " ++ two_digits d ++ codes " " ++ month ++ codes " " ++ four_digits y) ++ codes " ") (two_digits h ++ codes ":" ++ two_digits m ++ codes ":" ++ two_digits s) whole1 time4 in
    let whole3 = plain_append ((weekday ++ codes ", " ++ two_digits d ++ codes " " ++ month ++ codes " " ++ four_digits y) ++ codes " " ++ (two_digits h ++ codes ":" ++ two_digits m ++ codes ":" ++ two_digits s)) (codes " ") whole2 refl in
    plain_append ((weekday ++ codes ", " ++ two_digits d ++ codes " " ++ month ++ codes " " ++ four_digits y) ++ codes " " ++ (two_digits h ++ codes ":" ++ two_digits m ++ codes ":" ++ two_digits s) ++ codes " ") zone whole3 last
