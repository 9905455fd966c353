use Rattle.std.proofs.Common.{◌≡◌, ◌-◌, ◌≤◌, ◌++◌, length, drop}
use Rattle.sieve_syntax.specs.Line.{lines_of}
use Rattle.sieve_syntax.specs.Value.{dot_lines, multi_line_octets}
use Rattle.sieve_syntax.proofs.value.multi_line_octets.Given as goal

abbrev pub invariant-loop-place : goal.invariant-loop-place
invariant-loop-place l = record {
  within : l.place ≤ length l.symbol;
  same : l.octets.items ++ dot_lines (lines_of (drop l.place l.symbol)) ≡ multi_line_octets l.symbol;
}

abbrev pub decreases-loop-place : goal.decreases-loop-place
decreases-loop-place l = length l.initial.symbol - l.place
