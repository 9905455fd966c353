use Rattle.std.proofs.Common.{rules}
use Rattle.sieve_check.specs.Judgement.{judgement_of}
use Rattle.sieve_check.proofs.judged.judge.Goals as goal

pub returns-in-Err-Breach-clause-judged : goal.returns-in-Err-Breach-clause-judged
unfolding judgement_of
returns-in-Err-Breach-clause-judged c = search rules
