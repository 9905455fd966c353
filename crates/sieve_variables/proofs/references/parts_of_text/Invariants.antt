use Rattle.std.proofs.Common.{◌≡◌, ◌++◌, ◌-◌, ◌≤◌, length, take, drop}
use Rattle.sieve_variables.specs.Scan.{parts_of_text}
use Rattle.sieve_variables.proofs.Steps.{put_before}
use Rattle.sieve_variables.proofs.references.parts_of_text.Given as goal

-- The parts so far, and then those of the rest, are the parts of the text. Those of the rest are
-- the plain octets put before the parts of the octets after them.
abbrev pub invariant-loop-plain : goal.invariant-loop-plain
invariant-loop-plain l = record {
  within : l.plain ≤ length l.left;
  shorter : length l.left ≤ length l.text;
  parts : l.parts ++ put_before (take l.plain l.left) (parts_of_text (drop l.plain l.left)) ≡ parts_of_text l.text;
}

abbrev pub decreases-loop-plain : goal.decreases-loop-plain
decreases-loop-plain l = length l.left - l.plain
