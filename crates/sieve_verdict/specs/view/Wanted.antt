-- A line that a text is to have.
use Rattle.std.specs.Prelude.{ℕ, List}
use Rattle.sieve_verdict.specs.Lines.{action_line, error_line, implicit_line}
use Rattle.sieve_verdict.specs.declared.agreement.WantedLine.{WantedLine}
use Rattle.sieve_verdict.specs.declared.agreement.WantedLine.TheVariants.{Action, Implicit, Error}

abbrev pub wanted_line : WantedLine → List ℕ
wanted_line (Action action) = action_line action.now
wanted_line (Implicit mailbox flags) = implicit_line mailbox.now flags.now
wanted_line (Error error) = error_line error.now
