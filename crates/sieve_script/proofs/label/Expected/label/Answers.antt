use Rattle.std.proofs.Common.{rules}
use Rattle.sieve_script.proofs.label.Expected.label.Goals as goal

pub returns-in-Tag-None : goal.returns-in-Tag-None
returns-in-Tag-None c = search rules
