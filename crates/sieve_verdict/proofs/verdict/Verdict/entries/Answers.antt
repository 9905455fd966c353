use Rattle.std.proofs.Common.{rules}
use Rattle.sieve_verdict.proofs.verdict.Verdict.entries.Goals as goal

pub returns-clause-entries : goal.returns-clause-entries
returns-clause-entries c = search rules
