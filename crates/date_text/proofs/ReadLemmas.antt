-- The text shown of a moment is read as that moment.
use Rattle.std.proofs.Common.{◌≡◌, ℕ, ◌+◌, ◌*◌, ◌/◌, ◌%◌, ◌<◌, ◌≤◌, Bool, true, false, cond, ◌&&◌, List, [], ◌∷◌, ◌++◌, ℤ, Some, None, refl, sym, ap, ◌∙◌, arith, pos, codes}
use Rattle.std.specs.Option.{option_and_then, option_map}
use Rattle.jiff_core.proofs.CalendarLemmas.{days_in_month_bounds}
use Rattle.jiff_core.proofs.SignedLemmas.{signed_arith}
use Rattle.date_text.specs.Calendar.{CivilDate, IsInCalendar, date_at, date_of, day_number, is_in_years, weekday_at}
use Rattle.date_text.specs.Moment.{Moment, day_in, minute_in, moment_at}
use Rattle.date_text.specs.Number.{four_digits, two_digits}
use Rattle.date_text.specs.Reading.{DateWords, after_weekday, date_in, date_of_words, date_words, day_of_word, is_weekday, minute_of_words, moment_of_words, month_number, pair_of_word, second_of_word, year_of_word}
use Rattle.date_text.specs.Shown.{local, month_name, part_text, shown, weekday_name}
use Rattle.date_text.specs.declared.part.DatePart.TheVariants.{Std11}
use Rattle.date_text.specs.Words.{DateWord}
use Rattle.date_text.specs.Zone.{Zone, zone_of_words, zone_sign, zone_text}
use Rattle.date_text.proofs.DayLemmas.{date_at_is}
use Rattle.date_text.proofs.MomentLemmas.{same_moment, shifted}
use Rattle.date_text.proofs.PlainLemmas.{date_in-plain}
use Rattle.date_text.proofs.NumberLemmas.{date_of-calendar, pair_number-digits, pair_of_word-digits, year_of_word-digits}
use Rattle.date_text.proofs.LineLemmas.{AreShort, line, line_plain, line_words, month_case, weekday_case, words_of-line, zone_is_read, zone_plain}

-- THE MEANING OF THE WORDS

abbrev pub words_as : (month : List ℕ) (d y h m s : ℕ) (zone : List DateWord) → DateWords
words_as month d y h m s zone = record { day = two_digits d; month = month; year = four_digits y; hour = two_digits h; minute = two_digits m; second = Some (two_digits s); zone = zone }

pub date_words-line : (weekday month : List ℕ) (d y h m s : ℕ) (zone : List DateWord) → is_weekday weekday ≡ true → date_words (after_weekday (line_words weekday month d y h m s zone)) ≡ Some (words_as month d y h m s zone)
date_words-line weekday month d y h m s zone is =
    let words = two_digits d ∷ month ∷ four_digits y ∷ two_digits h ∷ codes ":" ∷ two_digits m ∷ codes ":" ∷ two_digits s ∷ zone in
    ap (λ b. date_words (cond (b && true) words (weekday ∷ codes "," ∷ words))) is

pub date_of_words-digits : (date : CivilDate) (w : DateWords) → year_of_word w.year ≡ Some date.year → month_number w.month ≡ Some date.month → day_of_word w.day ≡ Some date.day → IsInCalendar date → date_of_words w ≡ Some date
date_of_words-digits date w year month day h =
    ap (option_and_then (λ y. option_and_then (λ m. option_and_then (date_of y m) (day_of_word w.day)) (month_number w.month))) year
    ∙ ap (option_and_then (λ m. option_and_then (date_of date.year m) (day_of_word w.day))) month
    ∙ ap (option_and_then (date_of date.year date.month)) day
    ∙ date_of-calendar date h

pub minute_of_words-digits : (minute : ℕ) (w : DateWords) → w.hour ≡ two_digits (minute / 60) → w.minute ≡ two_digits (minute % 60) → minute < 1440 → minute_of_words w ≡ Some minute
minute_of_words-digits minute w hour rest h =
    let whole : 60 * (minute / 60) + minute % 60 ≡ minute = omega arith in
    ap (λ word. option_and_then (λ hour. option_map (λ m. 60 * hour + m) (pair_of_word 59 w.minute)) (pair_of_word 23 word)) hour
    ∙ ap (λ word. option_and_then (λ hour. option_map (λ m. 60 * hour + m) (pair_of_word 59 word)) (pair_of_word 23 (two_digits (minute / 60)))) rest
    ∙ ap (option_and_then (λ hour. option_map (λ m. 60 * hour + m) (pair_of_word 59 (two_digits (minute % 60))))) (pair_of_word-digits 23 (minute / 60) (omega arith) (omega arith))
    ∙ ap (option_map (λ m. 60 * (minute / 60) + m)) (pair_of_word-digits 59 (minute % 60) (omega arith) (omega arith))
    ∙ ap Some whole

pub moment_of_words-parts : (w : DateWords) (date : CivilDate) (minute second : ℕ) (zone : Zone) → date_of_words w ≡ Some date → minute_of_words w ≡ Some minute → second_of_word w.second ≡ Some second → zone_of_words w.zone ≡ Some zone → moment_of_words w ≡ Some (moment_at (day_number date) minute second zone)
moment_of_words-parts w date minute second zone one two three four =
    ap (option_and_then (λ d. option_and_then (λ m. option_and_then (λ s. option_map (moment_at (day_number d) m s) (zone_of_words w.zone)) (second_of_word w.second)) (minute_of_words w))) one
    ∙ ap (option_and_then (λ m. option_and_then (λ s. option_map (moment_at (day_number date) m s) (zone_of_words w.zone)) (second_of_word w.second))) two
    ∙ ap (option_and_then (λ s. option_map (moment_at (day_number date) minute s) (zone_of_words w.zone))) three
    ∙ ap (option_map (moment_at (day_number date) minute second)) four

-- the line shown of a date and a time is read as them
pub line_is_read : (date : CivilDate) (weekday minute second : ℕ) (zone : Zone) → IsInCalendar date → 1900 ≤ date.year → date.year < 10000 → date.day < 100 → weekday < 7 → minute < 1440 → second ≤ 60 → zone.minutes ≤ 5999 → date_in (line (weekday_name weekday) (month_name date.month) date.day date.year (minute / 60) (minute % 60) second (zone_text zone)) ≡ Some (moment_at (day_number date) minute second zone)
line_is_read date weekday minute second zone h late year day w m s z =
    let first = weekday_case weekday w in
    let month = month_case date.month h.1.0 h.1.1 in
    let short : AreShort date.day date.year (minute / 60) (minute % 60) second = record { day = day; year = year; hour = omega arith; minute = omega arith; second = omega arith } in
    let read = zone_is_read zone.west zone.minutes z in
    let zone_words = (zone_sign zone ∷ []) ∷ (two_digits (zone.minutes / 60) ++ two_digits (zone.minutes % 60)) ∷ [] in
    let words = words_as (month_name date.month) date.day date.year (minute / 60) (minute % 60) second zone_words in
    date_in-plain (line (weekday_name weekday) (month_name date.month) date.day date.year (minute / 60) (minute % 60) second (zone_text zone)) (line_plain (weekday_name weekday) (month_name date.month) date.day date.year (minute / 60) (minute % 60) second (zone_text zone) first.0 month.0 short (zone_plain zone.west zone.minutes z))
    ∙ ap (λ ws. option_and_then moment_of_words (date_words (after_weekday ws))) (words_of-line (weekday_name weekday) (month_name date.month) date.day date.year (minute / 60) (minute % 60) second (zone_text zone) first.0 month.0 short)
    ∙ ap (λ ws. option_and_then moment_of_words (date_words (after_weekday (line_words (weekday_name weekday) (month_name date.month) date.day date.year (minute / 60) (minute % 60) second ws)))) read.0
    ∙ ap (option_and_then moment_of_words) (date_words-line (weekday_name weekday) (month_name date.month) date.day date.year (minute / 60) (minute % 60) second zone_words first.1)
    ∙ moment_of_words-parts words date minute second zone
    (date_of_words-digits date words (year_of_word-digits date.year late year) month.1 (pair_number-digits date.day day) h)
    (minute_of_words-digits minute words refl refl m)
    (pair_of_word-digits 60 second s (omega arith))
    read.1

pub shown_some : (b : Bool) (text found : List ℕ) → cond b (Some text) None ≡ Some found → (b ≡ true) × (found ≡ text)
shown_some true text found e = (refl, sym cc)
shown_some false text found e = absurd cc

-- THE LAW

pub year_bound : (date : CivilDate) → IsInCalendar date → date.year < 10000
year_bound date h = let last = h.0.1 in omega (arith, signed_arith)

pub day_bound : (date : CivilDate) → IsInCalendar date → date.day < 100
day_bound date h =
    let last = h.2.1 in
    omega (arith, days_in_month_bounds (pos date.year) date.month)

pub weekday_bound : (day : ℤ) → weekday_at day < 7
weekday_bound day = omega arith

pub read_is : (moment : Moment) (zone : Zone) (text : List ℕ) → moment.second ≤ 60 → zone.minutes ≤ 5999 → 1900 ≤ (date_at (day_in moment zone)).year → shown moment zone Std11 ≡ Some text → date_in text ≡ Some (record { minutes = moment.minutes; second = moment.second; zone = zone })
read_is moment zone text s z late is =
    let day = day_in moment zone in
    let minute = minute_in moment zone in
    let date = date_at day in
    let some = shown_some (is_in_years day) (part_text Std11 (local moment zone)) text is in
    let there = date_at_is day some.0 in
    ap date_in some.1
    ∙ line_is_read date (weekday_at day) minute moment.second zone there.0 late (year_bound date there.0) (day_bound date there.0) (weekday_bound day) (shifted moment zone).1 s z
    ∙ ap (λ number. Some (moment_at number minute moment.second zone)) there.1
    ∙ ap Some (same_moment moment zone)
