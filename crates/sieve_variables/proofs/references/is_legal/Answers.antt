use Rattle.sieve_variables.proofs.Words.{not_legal}
use Rattle.sieve_variables.proofs.references.is_legal.Goals as goal

pub returns-then-not-is_identifier : goal.returns-then-not-is_identifier
returns-then-not-is_identifier c =
    not_legal c.args.inside.now c.in-Some.namespace.now c.in-Some.words.now c.in-Some.ensures.words (cc)
