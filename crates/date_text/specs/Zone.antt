-- Zones (RFC 5322, 3.3 and 4.3).
use Rattle.std.specs.Prelude.{ℕ, ◌+◌, ◌*◌, ◌/◌, ◌%◌, Bool, true, false, ◌||◌, ◌==◌, ℤ, pos, neg_ℤ, List, [], ◌∷◌, ◌++◌, Option, Some, None, codes, if◌then◌else◌}
use Rattle.std.specs.List.{list_all}
use Rattle.std.specs.Option.{option_and_then, option_map}
use Rattle.std.specs.Str.{str_eq_ignore_ascii_case}
use Rattle.octets.specs.Octet.{octet_of}
use Rattle.date_text.specs.Number.{pair_number, two_digits, up_to}
use Rattle.date_text.specs.Words.{DateWord, is_letter}

-- The minutes that a zone's clocks add to the time of UTC, or take from it to the west. West with 0
-- minutes is `-0000`, which says nothing of the zone.
pub record Zone : Type 0 where
  pub west : Bool
  pub minutes : ℕ

abbrev pub east : ℕ → Zone
east minutes = record { west = false; minutes = minutes }

abbrev pub west : ℕ → Zone
west minutes = record { west = true; minutes = minutes }

-- the minutes to add to the time of UTC
abbrev pub shift_of : Zone → ℤ
shift_of zone = if zone.west then neg_ℤ (pos zone.minutes) else pos zone.minutes

-- READING

-- the minutes of four digits: hours, and minutes up to 59
abbrev pub zone_minutes : List ℕ → Option ℕ
zone_minutes (a ∷ b ∷ c ∷ d ∷ []) = option_and_then (λ hours. option_map (λ minutes. 60 * hours + minutes) (up_to 59 (pair_number c d))) (pair_number a b)
zone_minutes digits = None

-- the zone of a sign and four digits
abbrev pub zone_of_sign : ℕ → List ℕ → Option Zone
zone_of_sign sign digits =
    if sign == octet_of "+" then option_map east (zone_minutes digits)
    else if sign == octet_of "-" then option_map west (zone_minutes digits)
    else None

-- the zone of a text that is a sign and four digits
abbrev pub zone_named : List ℕ → Option Zone
zone_named [] = None
zone_named (sign ∷ digits) = zone_of_sign sign digits

abbrev pub is_same_name : DateWord → List ℕ → Bool
is_same_name word name = str_eq_ignore_ascii_case name word

-- the zone of letters; letters other than these say nothing of it (RFC 5322, 4.3)
abbrev pub zone_of_letters : DateWord → Zone
zone_of_letters word =
    if is_same_name word (codes "UT") || is_same_name word (codes "GMT") then east 0
    else if is_same_name word (codes "EST") || is_same_name word (codes "CDT") then west (5 * 60)
    else if is_same_name word (codes "EDT") then west (4 * 60)
    else if is_same_name word (codes "CST") || is_same_name word (codes "MDT") then west (6 * 60)
    else if is_same_name word (codes "MST") || is_same_name word (codes "PDT") then west (7 * 60)
    else if is_same_name word (codes "PST") then west (8 * 60)
    else west 0

-- the zone of one word, if it has letters alone
abbrev pub zone_of_word : DateWord → Option Zone
zone_of_word word = if list_all is_letter word then Some (zone_of_letters word) else None

-- the zone of two words, of which the first has one octet
abbrev pub zone_of_two : (sign digits : DateWord) → Option Zone
zone_of_two [] digits = None
zone_of_two (sign ∷ []) digits = zone_of_sign sign digits
zone_of_two (sign ∷ more ∷ rest) digits = None

-- the zone of words: none, letters, or a sign and four digits
abbrev pub zone_of_words : List DateWord → Option Zone
zone_of_words [] = Some (west 0)
zone_of_words (word ∷ []) = zone_of_word word
zone_of_words (sign ∷ digits ∷ []) = zone_of_two sign digits
zone_of_words (sign ∷ digits ∷ more ∷ words) = None

-- SHOWING

abbrev pub zone_sign : Zone → ℕ
zone_sign zone = if zone.west then octet_of "-" else octet_of "+"

-- a zone as a sign and four digits
abbrev pub zone_text : Zone → List ℕ
zone_text zone = zone_sign zone ∷ two_digits (zone.minutes / 60) ++ two_digits (zone.minutes % 60)

-- a zone with a `:` between the hours and the minutes (RFC 3339, 5.6: time-numoffset)
abbrev pub zone_text_with_colon : Zone → List ℕ
zone_text_with_colon zone = zone_sign zone ∷ two_digits (zone.minutes / 60) ++ octet_of ":" ∷ two_digits (zone.minutes % 60)
