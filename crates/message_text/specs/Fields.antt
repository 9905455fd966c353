-- The header fields of a message (RFC 5322, 2.1 and 2.2), by whole lines and groups of lines.
use Rattle.std.specs.Prelude.{◌≡◌, ◌<◌, ◌≤◌, ℕ, Bool, true, false, ◌&&◌, ◌==◌, nat_lt, length, cond, List, [], ◌∷◌, ◌++◌, Some, map, filter}
use Rattle.std.specs.List.{after_first, before_first, concat, list_all, list_any, slice_get, take_while}
use Rattle.std.specs.Str.Lines.{lines}
use Rattle.encoded_words.specs.Scan.{decoded_of, has_known, has_word}
use Rattle.sieve_profile.specs.Profile.{Profile}
use Rattle.match_text.specs.Comparator.{ascii_casemap, same}
use Rattle.octets.specs.Octet.{is_blank, is_filled, is_visible, octet_of}
use Rattle.message_text.specs.Blanks.{trim, trim_end}

-- a field: its name, and its value on one line
pub record Field : Type 0 where
  pub name : List ℕ
  pub value : List ℕ

-- a line that begins with neither space nor tab, and all lines directly after it that do
pub record Group : Type 0 where
  pub first : List ℕ
  pub continuations : List (List ℕ)

-- the line begins with space or tab, so that it continues the line before (RFC 5322, 2.2.3)
abbrev pub is_continuation : List ℕ → Bool
is_continuation [] = false
is_continuation (b ∷ bs) = is_blank b

-- A line is the octets of the message up to a line feed. The line feed and a carriage return
-- directly before it are no part of the line. The octets after the last line feed, if any, are a
-- line too. A carriage return at its end is an octet like any other. The header section is the
-- lines before the first empty one.
abbrev pub header_lines : List ℕ → List (List ℕ)
header_lines message = take_while is_filled (lines message)

-- the groups of lines (RFC 5322, 2.2.3); continuations with no line before them are in none
abbrev pub groups_of : List (List ℕ) → List Group
groups_of [] = []
groups_of (line ∷ more) =
    cond (is_continuation line) (groups_of more)
    (record { first = line; continuations = take_while is_continuation more } ∷ groups_of more)

abbrev pub is_colon : ℕ → Bool
is_colon b = b == octet_of ":"

-- Whether a text is a name: one or more octets, all of them visible. A colon ends a name (RFC 5322,
-- 2.2).
abbrev pub is_name : List ℕ → Bool
is_name text = nat_lt 0 (length text) && list_all is_visible text

-- the text before the first colon of a line, without spaces and tabs at its end
abbrev pub name_in : List ℕ → List ℕ
name_in line = trim_end (before_first is_colon line)

-- the line has a colon, and a name before the first one
abbrev pub begins_field : List ℕ → Bool
begins_field line = list_any is_colon line && is_name (name_in line)

abbrev pub is_field : Group → Bool
is_field group = begins_field group.first

-- The field of such a group. Its value is the text after the first colon, and the other lines as
-- they are. Unfolding takes the line ends away (RFC 5322, 2.2.3). The value is without outer spaces
-- and tabs (RFC 5228, 5.7).
abbrev pub field_of : Group → Field
field_of group = record {
  name = name_in group.first;
  value = trim (after_first is_colon group.first ++ concat group.continuations);
}

-- the groups of a message that are fields
unfoldable pub field_groups : List ℕ → List Group
field_groups message = filter is_field (groups_of (header_lines message))

-- the fields of a message, in order (RFC 5322, 2.2)
unfoldable pub fields_of : List ℕ → List Field
fields_of message = map field_of (field_groups message)

-- the names of the fields, in order
abbrev pub names_of : List ℕ → List (List ℕ)
names_of message = map (λ field. field.name) (fields_of message)

-- the values of the fields, in order (RFC 5322, 2.2.3)
abbrev pub values_of : List ℕ → List (List ℕ)
values_of message = map (λ field. field.value) (fields_of message)

-- no line continues the first one of a group
abbrev pub is_unfolded : Group → Bool
is_unfolded group = length group.continuations == 0

-- field i stands on one line
abbrev pub IsUnfolded : List ℕ → ℕ → Type 0
IsUnfolded message i = slice_get (map is_unfolded (field_groups message)) i ≡ Some true

-- field i goes on in lines that continue its first one
abbrev pub IsFolded : List ℕ → ℕ → Type 0
IsFolded message i = slice_get (map is_unfolded (field_groups message)) i ≡ Some false

-- the values of the fields with their encoded words replaced, in order (RFC 2047, section 2)
abbrev pub decoded_values_of : Profile → List ℕ → List (List ℕ)
decoded_values_of profile message = map (decoded_of profile) (values_of message)

-- a word is replaced in the value of field i
abbrev pub IsReplaced : Profile → List ℕ → ℕ → Type 0
IsReplaced profile message i = slice_get (map (has_word profile) (values_of message)) i ≡ Some true

-- no word is replaced in the value of field i
abbrev pub IsUnreplaced : Profile → List ℕ → ℕ → Type 0
IsUnreplaced profile message i = slice_get (map (has_word profile) (values_of message)) i ≡ Some false

-- no word of a known charset is written in the value of field i
abbrev pub IsUnknown : Profile → List ℕ → ℕ → Type 0
IsUnknown profile message i = slice_get (map (has_known profile) (values_of message)) i ≡ Some false

-- whether a field has that name; names of fields ignore the case of ASCII (RFC 5228, 2.4.2.2)
abbrev pub is_field_named : List ℕ → Field → Bool
is_field_named name field = same ascii_casemap field.name name

-- field i is the first of that name at or after a place
pub record IsNextNamed (fields : List Field) (name : List ℕ) (start i : ℕ) : Type 0 where
  pub after : start ≤ i
  pub within : i < length fields
  pub is : slice_get (map (is_field_named name) fields) i ≡ Some true
  pub others : (k : ℕ) → start ≤ k → k < i → slice_get (map (is_field_named name) fields) k ≡ Some false
