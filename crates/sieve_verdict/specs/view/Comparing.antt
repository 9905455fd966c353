-- The state of a device that compares a line with the octets that are written to it.
use Rattle.std.specs.Prelude.{ℕ, Bool, false, not, ◌==◌, List, [], ◌∷◌, ◌++◌, length, take, Option, None, Some}

-- whether a text begins with an octet
abbrev pub begins_with : ℕ → List ℕ → Bool
begins_with octet [] = false
begins_with octet (first ∷ text) = first == octet

-- The octets that were written. They are the first of the line, and then one that isn't the line's,
-- if there is one.
abbrev pub written : (line : List ℕ) → (taken : ℕ) → (other : Option ℕ) → List ℕ
written line taken None = take taken line
written line taken (Some octet) = take taken line ++ octet ∷ []

-- The device's contents in contracts: the length of the line, the line, and then the written
-- octets. Writing adds to the end alone, so the line stays the same.
unfoldable pub held : (line : List ℕ) → (taken : ℕ) → (other : Option ℕ) → List ℕ
held line taken other = (length line ∷ line) ++ written line taken other

-- The octet that isn't the line's isn't the next octet of the line. While there is no such octet,
-- no write failed.
abbrev pub is_apart : (other : Option ℕ) → (left : List ℕ) → (faults : ℕ) → Bool
is_apart None left faults = faults == 0
is_apart (Some octet) left faults = not (begins_with octet left)

-- whether all of the line was written, and nothing else
abbrev pub is_whole : (line : List ℕ) → (taken : ℕ) → (other : Option ℕ) → Bool
is_whole line taken None = taken == length line
is_whole line taken (Some octet) = false
