-- Dates as they are written (RFC 5322, 3.3 and 4.3).
use Rattle.std.specs.Prelude.{ℕ, ◌+◌, ◌*◌, Bool, false, ◌&&◌, ◌==◌, nat_le, nat_lt, List, [], ◌∷◌, Option, Some, None, codes, position, if◌then◌else◌}
use Rattle.std.specs.List.{after_last, list_any}
use Rattle.std.specs.Option.{option_and_then, option_map}
use Rattle.octets.specs.Octet.{octet_of}
use Rattle.date_text.specs.Calendar.{CivilDate, date_of, day_number}
use Rattle.date_text.specs.Moment.{Moment, moment_at}
use Rattle.date_text.specs.Number.{digit_number, four_number, pair_number, up_to}
use Rattle.date_text.specs.Words.{DateWord, without_comments, words_of}
use Rattle.date_text.specs.Zone.{is_same_name, zone_of_words}

-- NAMES

abbrev pub weekday_names : List (List ℕ)
weekday_names = codes "Mon" ∷ codes "Tue" ∷ codes "Wed" ∷ codes "Thu" ∷ codes "Fri" ∷ codes "Sat" ∷ codes "Sun" ∷ []

abbrev pub month_names : List (List ℕ)
month_names =
    codes "Jan" ∷ codes "Feb" ∷ codes "Mar" ∷ codes "Apr" ∷ codes "May" ∷ codes "Jun"
    ∷ codes "Jul" ∷ codes "Aug" ∷ codes "Sep" ∷ codes "Oct" ∷ codes "Nov" ∷ codes "Dec" ∷ []

-- whether a word is the name of a weekday, in any case of letters
abbrev pub is_weekday : DateWord → Bool
is_weekday word = list_any (is_same_name word) weekday_names

-- the number of a month by its name, from 1
abbrev pub month_number : DateWord → Option ℕ
month_number word = option_map (λ place. place + 1) (position (is_same_name word) month_names)

-- THE WORDS OF A DATE

-- whether a word is this one octet
abbrev pub is_sign : ℕ → DateWord → Bool
is_sign sign [] = false
is_sign sign (c ∷ []) = c == sign
is_sign sign (c ∷ d ∷ rest) = false

-- the words after a weekday and a comma, if they begin with them, and else all
abbrev pub after_weekday : List DateWord → List DateWord
after_weekday [] = []
after_weekday (word ∷ []) = word ∷ []
after_weekday (word ∷ comma ∷ words) = if is_weekday word && is_sign (octet_of ",") comma then words else word ∷ comma ∷ words

-- the second after a `:`, if words begin with them
abbrev pub second_word : List DateWord → Option DateWord
second_word [] = None
second_word (word ∷ []) = None
second_word (colon ∷ second ∷ words) = if is_sign (octet_of ":") colon then Some second else None

-- the words after a `:` and a second, if they begin with them, and else all
abbrev pub after_second : List DateWord → List DateWord
after_second [] = []
after_second (word ∷ []) = word ∷ []
after_second (colon ∷ second ∷ words) = if is_sign (octet_of ":") colon then words else colon ∷ second ∷ words

-- the words of a date and a time, by their meaning
pub record DateWords : Type 0 where
  pub day : DateWord
  pub month : DateWord
  pub year : DateWord
  pub hour : DateWord
  pub minute : DateWord
  pub second : Option DateWord
  pub zone : List DateWord

-- day, month, year, hour, `:`, minute, maybe `:` and second, and the zone
abbrev pub date_words : List DateWord → Option DateWords
date_words (day ∷ month ∷ year ∷ hour ∷ colon ∷ minute ∷ words) =
    if is_sign (octet_of ":") colon
    then Some (record { day = day; month = month; year = year; hour = hour; minute = minute; second = second_word words; zone = after_second words })
    else None
date_words words = None

-- MEANINGS

-- the number of a day: one digit or two
abbrev pub day_of_word : DateWord → Option ℕ
day_of_word (c ∷ []) = digit_number c
day_of_word (c ∷ d ∷ []) = pair_number c d
day_of_word word = None

-- a year of two digits: those up to 49 are from 2000 on, the others from 1900 on
abbrev pub year_of_pair : ℕ → ℕ
year_of_pair n = if nat_lt n 50 then 2000 + n else 1900 + n

-- a year, if it is 1900 or later
abbrev pub if_late : ℕ → Option ℕ
if_late year = if nat_le 1900 year then Some year else None

-- The year of four digits, three or two. Four are 1900 or later, and three are added to 1900.
abbrev pub year_of_word : DateWord → Option ℕ
year_of_word (c ∷ d ∷ []) = option_map year_of_pair (pair_number c d)
year_of_word (b ∷ c ∷ d ∷ []) = option_map (λ n. 1900 + n) (four_number (octet_of "0") b c d)
year_of_word (a ∷ b ∷ c ∷ d ∷ []) = option_and_then if_late (four_number a b c d)
year_of_word word = None

-- the number of two digits up to a limit
abbrev pub pair_of_word : (limit : ℕ) → DateWord → Option ℕ
pair_of_word limit (c ∷ d ∷ []) = up_to limit (pair_number c d)
pair_of_word limit word = None

-- the date, if the month has that day in that year
abbrev pub date_of_words : DateWords → Option CivilDate
date_of_words w = option_and_then (λ year. option_and_then (λ month. option_and_then (date_of year month) (day_of_word w.day)) (month_number w.month)) (year_of_word w.year)

-- the minute of the day, of an hour up to 23 and a minute up to 59
abbrev pub minute_of_words : DateWords → Option ℕ
minute_of_words w = option_and_then (λ hour. option_map (λ minute. 60 * hour + minute) (pair_of_word 59 w.minute)) (pair_of_word 23 w.hour)

-- the second up to 60; it is 0 where none is written
abbrev pub second_of_word : Option DateWord → Option ℕ
second_of_word None = Some 0
second_of_word (Some word) = pair_of_word 60 word

-- the moment of words, if they are a date, a time and a zone
abbrev pub moment_of_words : DateWords → Option Moment
moment_of_words w = option_and_then (λ date. option_and_then (λ minute. option_and_then (λ second. option_map (moment_at (day_number date) minute second) (zone_of_words w.zone)) (second_of_word w.second)) (minute_of_words w)) (date_of_words w)

-- The moment of a text without comments. Its words are those of a date and a time,
-- maybe after a weekday.
abbrev pub moment_read : List ℕ → Option Moment
moment_read text = option_and_then moment_of_words (date_words (after_weekday (words_of text)))

-- The moment of a field's value (RFC 5322, 3.6.7; RFC 5260, section 4). The text after its last `;`
-- is read, or all of it where there is none.
abbrev pub date_in : List ℕ → Option Moment
date_in value = option_and_then moment_read (without_comments (after_last (λ c. c == octet_of ";") value))
