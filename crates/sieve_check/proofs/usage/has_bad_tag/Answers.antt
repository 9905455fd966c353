use Rattle.std.proofs.Common.{rules}
use Rattle.sieve_check.proofs.usage.has_bad_tag.Goals as goal

pub returns-else-has_repeated : goal.returns-else-has_repeated
returns-else-has_repeated c = search rules
