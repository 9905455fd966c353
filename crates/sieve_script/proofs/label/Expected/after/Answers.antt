use Rattle.std.proofs.Common.{rules}
use Rattle.sieve_script.proofs.label.Expected.after.Goals as goal

pub returns-in-None : goal.returns-in-None
returns-in-None c = search rules
