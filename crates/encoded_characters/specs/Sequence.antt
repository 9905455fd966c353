-- Encoded characters as they are written (RFC 5228, 2.4.2.4). First come `${`, the word
-- `hex` or `unicode` in any case of letters, and `:`. Then come hexadecimal digits with
-- blanks between, and `}`.
use Rattle.std.specs.Prelude.{ℕ, Bool, true, false, not, ◌&&◌, ◌||◌, ◌==◌, nat_le, List, [], ◌∷◌, ◌++◌, length, is_some, codes, if◌then◌else◌}
use Rattle.std.specs.List.{flat_map, list_all}
use Rattle.std.specs.Str.{str_eq_ignore_ascii_case}
use Rattle.octets.specs.Hex.{hex_value}
use Rattle.octets.specs.Octet.{is_blank, is_filled, octet_of}

-- digits with the blanks before them
pub record Item : Type 0 where
  pub blanks : List ℕ
  pub digits : List ℕ

-- the inside of a sequence: runs of digits, with the blanks before each and after the last
pub record InsideSequence : Type 0 where
  pub items : List Item
  pub last : List ℕ

-- a sequence, by its word and its inside, which stands between `:` and `}`
pub record EncodedSequence : Type 0 where
  pub word : List ℕ
  pub inside : InsideSequence

-- whether a word is that of sequences that stand for octets
abbrev pub is_hex : List ℕ → Bool
is_hex word = str_eq_ignore_ascii_case (codes "hex") word

-- whether a word is that of sequences that stand for characters
abbrev pub is_unicode : List ℕ → Bool
is_unicode word = str_eq_ignore_ascii_case (codes "unicode") word

-- blanks: spaces, tabs, and CRs each with an LF after it
abbrev pub are_blanks : List ℕ → Bool
are_blanks [] = true
are_blanks (c ∷ []) = is_blank c
are_blanks (c ∷ d ∷ rest) = if is_blank c then are_blanks (d ∷ rest) else (c == octet_of "\r" && d == octet_of "\n") && are_blanks rest

-- whether an octet is a hexadecimal digit: HEXDIG
abbrev pub is_hex_digit : ℕ → Bool
is_hex_digit octet = is_some (hex_value octet)

-- one digit or more; two at most where they stand for an octet
abbrev pub are_digits : (hex : Bool) → List ℕ → Bool
are_digits hex digits = (is_filled digits && list_all is_hex_digit digits) && (not hex || nat_le (length digits) 2)

-- digits with any number of blanks before them
abbrev pub is_item : (hex : Bool) → Item → Bool
is_item hex item = are_blanks item.blanks && are_digits hex item.digits

-- one run of digits or more; all but the first have a blank before them
abbrev pub are_items : (hex : Bool) → List Item → Bool
are_items hex [] = false
are_items hex (item ∷ items) = is_item hex item && list_all (λ further. is_filled further.blanks && is_item hex further) items

-- whether the inside of a sequence is legal
abbrev pub is_inside : (hex : Bool) → InsideSequence → Bool
is_inside hex inside = are_items hex inside.items && are_blanks inside.last

-- whether a sequence is legal
abbrev pub is_legal : EncodedSequence → Bool
is_legal s = (is_hex s.word || is_unicode s.word) && is_inside (is_hex s.word) s.inside

-- an item as it is written
abbrev pub item_written : Item → List ℕ
item_written item = item.blanks ++ item.digits

-- the inside of a sequence as it is written
abbrev pub inside_written : InsideSequence → List ℕ
inside_written inside = flat_map item_written inside.items ++ inside.last

-- a sequence as it is written
abbrev pub written : EncodedSequence → List ℕ
written s = codes "${" ++ s.word ++ octet_of ":" ∷ inside_written s.inside ++ codes "}"
