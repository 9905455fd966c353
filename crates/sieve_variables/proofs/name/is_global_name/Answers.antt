use Rattle.std.proofs.Common.{rules}
use Rattle.sieve_variables.proofs.name.is_global_name.Goals as goal

pub returns-then-eq_ignore_ascii_case : goal.returns-then-eq_ignore_ascii_case
returns-then-eq_ignore_ascii_case c = search rules
