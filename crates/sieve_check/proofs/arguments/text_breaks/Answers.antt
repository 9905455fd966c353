use Rattle.std.proofs.Common.{rules}
use Rattle.sieve_check.proofs.arguments.text_breaks.Goals as goal

pub returns-else-is_bad_name : goal.returns-else-is_bad_name
returns-else-is_bad_name c = search rules
