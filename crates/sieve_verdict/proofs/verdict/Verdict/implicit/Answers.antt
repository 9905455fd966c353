use Rattle.std.proofs.Common.{rules}
use Rattle.sieve_verdict.proofs.verdict.Verdict.implicit.Goals as goal

pub returns : goal.returns
returns c = search rules
