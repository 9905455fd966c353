-- The lines of octets, each with the LF that ends it (RFC 5228, 2.4.2).
use Rattle.std.specs.Prelude.{ℕ, Bool, false, ◌==◌, ◌&&◌, if◌then◌else◌, List, [], ◌∷◌}
use Rattle.std.proofs.Common.{suc}
use Rattle.octets.specs.Octet.{octet_of}

-- how many octets the first line of a text has, its LF among them
unfoldable pub line_length : List ℕ → ℕ
line_length [] = 0
line_length (c ∷ cs) = if c == octet_of "\n" then 1 else suc (line_length cs)

-- an octet before the first line
abbrev pub on_first : ℕ → List (List ℕ) → List (List ℕ)
on_first c [] = (c ∷ []) ∷ []
on_first c (line ∷ lines) = (c ∷ line) ∷ lines

-- The lines of a text, each with its LF. The last may have none.
unfoldable pub lines_of : List ℕ → List (List ℕ)
lines_of [] = []
lines_of (c ∷ cs) = if c == octet_of "\n" then (octet_of "\n" ∷ []) ∷ lines_of cs else on_first c (lines_of cs)

-- LF, or CR and LF, for `CRLF` of RFC 5228, section 8.1
unfoldable pub is_line_end : List ℕ → Bool
is_line_end [] = false
is_line_end (c ∷ []) = c == octet_of "\n"
is_line_end (c ∷ d ∷ []) = c == octet_of "\r" && (d == octet_of "\n")
is_line_end (c ∷ d ∷ e ∷ es) = false

-- a dot alone, with its line end: the end of `multi-line` in RFC 5228, section 8.1
unfoldable pub is_dot_line : List ℕ → Bool
is_dot_line [] = false
is_dot_line (c ∷ cs) = c == octet_of "." && is_line_end cs
