use Rattle.std.proofs.Common.{◌≡◌, ◌-◌, ◌≤◌, length, drop}
use Rattle.sieve_syntax.specs.Line.{lines_of}
use Rattle.sieve_syntax.specs.Scan.{dot_length, shifted}
use Rattle.sieve_syntax.proofs.multi_line.dot_end.Given as goal

abbrev pub invariant-loop-place : goal.invariant-loop-place
invariant-loop-place l = record {
  within : l.place ≤ length l.rest;
  same : shifted l.place (dot_length (lines_of (drop l.place l.rest))) ≡ shifted l.start (dot_length (lines_of (drop l.start l.rest)));
}

abbrev pub decreases-loop-place : goal.decreases-loop-place
decreases-loop-place l = length l.initial.rest - l.place
