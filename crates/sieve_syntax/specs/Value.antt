-- The values of numbers and strings of a text (RFC 5228, 2.4).
use Rattle.std.specs.Prelude.{ℕ, ◌+◌, ◌-◌, ◌*◌, ◌^◌, ◌==◌, ◌&&◌, ◌||◌, Bool, false, not, nat_lt, if◌then◌else◌, List, [], ◌∷◌, ◌++◌, length, drop, Option, Some, None}
use Rattle.std.specs.List.{slice_range}
use Rattle.octets.specs.Octet.{octet_of, is_digit}
use Rattle.sieve_syntax.specs.Line.{lines_of, is_dot_line}

-- The factor of a unit (RFC 5228, 2.4.1). K is 2 ^ 10, M is 2 ^ 20 and G is 2 ^ 30.
abbrev pub unit_of : ℕ → ℕ
unit_of octet = if octet == octet_of "K" || (octet == octet_of "k") then 1024 else (if octet == octet_of "M" || (octet == octet_of "m") then 1048576 else 1073741824)

-- the value of digits in base 10, after digits of the value n, times the unit after them
unfoldable pub number_from : ℕ → List ℕ → ℕ
number_from n [] = n
number_from n (c ∷ cs) = if is_digit c then number_from (10 * n + (c - octet_of "0")) cs else n * unit_of c

-- the value of a number (RFC 5228, 2.4.1), or none past 64 bits
abbrev pub number_of : List ℕ → Option ℕ
number_of symbol = if nat_lt (number_from 0 symbol) (2 ^ 64) then Some (number_from 0 symbol) else None

-- an octet, and a CR before an LF that has none
abbrev pub line_end : Bool → ℕ → List ℕ
line_end after_cr c = if (c == octet_of "\n") && not after_cr then octet_of "\r" ∷ octet_of "\n" ∷ [] else c ∷ []

-- Each LF without a CR before it gets one: CR and LF end a line (RFC 5228, 2.4.2). `after_cr` says
-- whether a CR is before these octets.
unfoldable pub with_cr : Bool → List ℕ → List ℕ
with_cr after_cr [] = []
with_cr after_cr (c ∷ cs) = line_end after_cr c ++ with_cr (c == octet_of "\r") cs

-- Whether an octet is a backslash that protects the next one. A protected backslash doesn't.
abbrev pub is_protector : Bool → ℕ → Bool
is_protector protected c = (c == octet_of "\\") && not protected

abbrev pub kept_octet : Bool → ℕ → List ℕ
kept_octet protected c = if is_protector protected c then [] else c ∷ []

unfoldable mutual
  -- a backslash and an octet give that octet (RFC 5228, 2.4.2)
  pub unprotected : List ℕ → List ℕ
  unprotected [] = []
  unprotected (c ∷ cs) = if c == octet_of "\\" then first_kept cs else c ∷ unprotected cs

  pub first_kept : List ℕ → List ℕ
  first_kept [] = []
  first_kept (c ∷ cs) = c ∷ unprotected cs

-- whether an octet in a string in quotation marks may stand for another than itself
abbrev pub is_changed : ℕ → Bool
is_changed c = (c == octet_of "\n") || (c == octet_of "\\")

-- a quoted string without its quotation marks
abbrev pub between_quotes : List ℕ → List ℕ
between_quotes symbol = slice_range symbol 1 (length symbol - 1)

-- the octets that a quoted string stands for (RFC 5228, 2.4.2)
unfoldable pub quoted_octets : List ℕ → List ℕ
quoted_octets symbol = unprotected (with_cr false (between_quotes symbol))

-- a line that begins with two dots, without the first of them (RFC 5228, 2.4.2)
unfoldable pub without_dot : List ℕ → List ℕ
without_dot [] = []
without_dot (c ∷ []) = c ∷ []
without_dot (c ∷ d ∷ ds) = if (c == octet_of ".") && (d == octet_of ".") then d ∷ ds else c ∷ d ∷ ds

-- the lines before the first that is a dot alone, without doubled dots, and with a CR
-- before each LF
unfoldable pub dot_lines : List (List ℕ) → List ℕ
dot_lines [] = []
dot_lines (line ∷ lines) = if is_dot_line line then [] else with_cr false (without_dot line) ++ dot_lines lines

-- the octets that a multi-line string stands for: its lines after the first (RFC 5228, 2.4.2)
unfoldable pub multi_line_octets : List ℕ → List ℕ
multi_line_octets symbol = dot_lines (drop 1 (lines_of symbol))
