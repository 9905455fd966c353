use Rattle.std.proofs.Common.{◌-◌, ◌≤◌, length}
use Rattle.sieve_syntax.specs.view.Cursor.{GoesTo, IsCursor}
use Rattle.sieve_syntax.proofs.cursor.skip_white.Given as goal

abbrev pub invariant-loop-length : goal.invariant-loop-length
invariant-loop-length l = record {
  is : IsCursor l.text l.cursor;
  low : l.fn.cursor.place ≤ l.cursor.place;
  skipped : GoesTo l.text l.fn.cursor.place l.cursor.place;
}

abbrev pub decreases-loop-length : goal.decreases-loop-length
decreases-loop-length l = length l.initial.text - l.cursor.place
