use Rattle.std.proofs.Common.{◌≡◌, ◌<◌, ◌^◌, drop}
use Rattle.session_text.specs.SessionLine.{value_after}
use Rattle.session_text.proofs.session_line.count_of.Given as goal

-- The value so far and the octets that are left give the value of the whole word. The value is
-- below 10 to the power of the octets read.
abbrev pub invariant-loop-octet : goal.invariant-loop-octet
invariant-loop-octet l = (value_after l.value (drop l.octet-index l.word) ≡ value_after 0 l.word) × (l.value < 10 ^ l.octet-index)
