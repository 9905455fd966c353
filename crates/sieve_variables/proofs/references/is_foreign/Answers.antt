use Rattle.std.proofs.Common.{not, ap, ◌∙◌}
use Rattle.sieve_variables.proofs.Words.{foreign_cut}
use Rattle.sieve_variables.proofs.references.is_foreign.Goals as goal

pub returns-in-Some : goal.returns-in-Some
returns-in-Some c =
    ap not c.is_shared.ensures
    ∙ foreign_cut c.args.inside.now c.in-Some.namespace.now c.in-Some.name.now c.in-Some.ensures.words
