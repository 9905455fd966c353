use Rattle.std.proofs.Common.{◌-◌, length}
use Rattle.sieve_syntax.specs.view.Cursor.{IsCursor}
use Rattle.sieve_syntax.specs.view.Reader.{state_value}
use Rattle.sieve_syntax.proofs.Running.{Means}
use Rattle.sieve_syntax.proofs.parser.read_commands.Given as goal

abbrev pub invariant-loop-token : goal.invariant-loop-token
invariant-loop-token l = record {
  is : IsCursor l.text l.cursor;
  means : Means l.text (state_value l.outer l.state) l.cursor.place;
}

abbrev pub decreases-loop-token : goal.decreases-loop-token
decreases-loop-token l = length l.initial.text - l.cursor.place
