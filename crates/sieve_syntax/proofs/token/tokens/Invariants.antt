use Rattle.std.proofs.Common.{◌-◌, length}
use Rattle.sieve_syntax.specs.view.Cursor.{IsCursor}
use Rattle.sieve_syntax.proofs.Finding.{GoesOn}
use Rattle.sieve_syntax.proofs.token.tokens.Given as goal

abbrev pub invariant-loop-token : goal.invariant-loop-token
invariant-loop-token l = record {
  is : IsCursor l.text l.cursor;
  spelled : GoesOn l.text l.found.items l.cursor.place;
}

abbrev pub decreases-loop-token : goal.decreases-loop-token
decreases-loop-token l = length l.initial.text - l.cursor.place
