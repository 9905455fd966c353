-- The next line, as the program answers it.
use Rattle.std.specs.Prelude.{◌≡◌, ⊤, ℕ, false, ◌<◌, ◌≤◌, List, [], ◌++◌, length, take, drop, None, Some}
use Rattle.sieve_limits.specs.Limits.{line_limit}
use Rattle.session_text.specs.SessionLine.{cut_line, first_line, is_long_so_far, line_so_far}
use Rattle.session_text.specs.declared.line.Line.{Line}
use Rattle.session_text.specs.declared.line.Line.TheVariants.{Over, Whole, TooLong, Failed, Spent}

-- the octets have no LF, and may still become a line
abbrev pub IsCutOff : List ℕ → Type 0
IsCutOff pending = (cut_line pending ≡ None) × (is_long_so_far pending ≡ false)

-- The answer fits the octets that are read and not used and those left in the input. `Failed` and
-- `Spent` fit any.
abbrev pub IsLine : Line → List ℕ → List ℕ → Type 0
IsLine Over pending left = pending ++ left ≡ []
IsLine (Whole len skip) pending left = first_line (pending ++ left) ≡ (take len pending, drop skip pending ++ left)
IsLine TooLong pending left = line_limit < length (first_line (pending ++ left)).0
IsLine Failed pending left = ⊤
IsLine Spent pending left = ⊤

-- A line lies in the octets that are read, and is within the limit. Where it can't be read, its
-- octets so far may still become one.
abbrev pub IsWithinLine : Line → List ℕ → Type 0
IsWithinLine Over pending = ⊤
IsWithinLine (Whole len skip) pending = (len ≤ line_limit) × (len ≤ length pending) × (0 < skip) × (skip ≤ length pending)
IsWithinLine TooLong pending = 0 < length pending
IsWithinLine Failed pending = IsCutOff pending
IsWithinLine Spent pending = IsCutOff pending

-- a line ends at an LF, whatever follows it
abbrev pub IsEnded : Line → List ℕ → Type 0
IsEnded (Whole len skip) pending = (more : List ℕ) → line_so_far (take skip pending ++ more) ≡ Some (take len pending, more)
IsEnded other pending = ⊤

-- a fact for the end, and one for each fault
abbrev pub MatchEnd : Line → Type 0 → Type 0 → Type 0 → Type 0
MatchEnd Over P Q R = P
MatchEnd (Whole len skip) P Q R = ⊤
MatchEnd TooLong P Q R = ⊤
MatchEnd Failed P Q R = Q
MatchEnd Spent P Q R = R
