-- The lines of a text, each with its end (RFC 2046, 5.1.1). An end is an LF, with a CR directly
-- before it if one is there.
use Rattle.std.specs.Prelude.{ℕ, ◌-◌, Bool, ◌||◌, ◌==◌, nat_eq, List, [], ◌∷◌, length, take, slice_index, codes, if◌then◌else◌}
use Rattle.std.specs.List.{onto_first, starts_with}
use Rattle.std.specs.Str.Lines.{strip_carriage_return}
use lib.Pointwise.{pointwise}
use Rattle.octets.specs.Octet.{octet_of}

-- A text is cut after each LF. The text after the last one is a line too, if it has octets.
unfoldable pub ended_lines : List ℕ → List (List ℕ)
ended_lines [] = []
ended_lines (c ∷ rest) = if c == octet_of "\n" then (c ∷ []) ∷ ended_lines rest else onto_first c (ended_lines rest)

-- whether a text is the end of a line
abbrev pub is_line_end : List ℕ → Bool
is_line_end text = pointwise nat_eq (codes "\n") text || pointwise nat_eq (codes "\r\n") text

-- A text without the end of its last line. That end is an LF, with a CR directly before it
-- if one is there.
abbrev pub without_end : List ℕ → List ℕ
without_end text = if slice_index text (length text - 1) == octet_of "\n" then strip_carriage_return (take (length text - 1) text) else text

-- the number of octets of the line end with which a text begins; 0 where it begins with none
abbrev pub end_len : List ℕ → ℕ
end_len text = if starts_with nat_eq text (codes "\n") then 1 else if starts_with nat_eq text (codes "\r\n") then 2 else 0
