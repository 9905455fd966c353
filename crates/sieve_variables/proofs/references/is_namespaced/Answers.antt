use Rattle.std.proofs.Common.{sym, ◌∙◌}
use Rattle.sieve_variables.proofs.Words.{more_words}
use Rattle.sieve_variables.proofs.references.is_namespaced.Goals as goal

pub returns : goal.returns
returns c = c.contains.ensures.value ∙ sym (more_words c.args.inside.now)
