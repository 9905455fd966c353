use Rattle.std.proofs.Common.{rules}
use Rattle.sieve_verdict.proofs.verdict.Verdict.error.Goals as goal

pub returns : goal.returns
returns c = search rules
