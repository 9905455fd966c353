use Rattle.std.proofs.Common.{◌≡◌, ◌++◌, ◌-◌, ◌≤◌, length, drop}
use Rattle.std.specs.List.{concat, take_while}
use Rattle.std.specs.Str.Lines.{lines}
use Rattle.message_text.specs.Blanks.{trim_start}
use Rattle.message_text.specs.Fields.{is_continuation}
use Rattle.message_text.proofs.values.unfolded.Given as goal

-- The value so far begins with no blank. With the continuations that are left it is the whole
-- value, but for blanks at the start.
abbrev pub invariant-loop-line : goal.invariant-loop-line
invariant-loop-line l =
    (l.start ≤ length l.octets) × (trim_start l.value.items ≡ l.value.items)
    × (trim_start (l.value.items ++ concat (take_while is_continuation (lines (drop l.start l.octets))))
    ≡ trim_start (l.first ++ concat (take_while is_continuation (lines (drop l.next l.octets)))))

abbrev pub decreases-loop-line : goal.decreases-loop-line
decreases-loop-line l = length l.octets - l.start
