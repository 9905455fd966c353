use Rattle.std.proofs.Common.{ap, ◌∙◌}
use Rattle.sieve_variables.specs.Part.{variable_part}
use Rattle.sieve_variables.proofs.Words.{shared_cut}
use Rattle.sieve_variables.proofs.references.part_inside.Goals as goal

pub returns-in_ok-shared-in-Some : goal.returns-in_ok-shared-in-Some
returns-in_ok-shared-in-Some c =
    c.variable.ensures
    ∙ ap variable_part c.in_ok-shared-in-Some.ensures
    ∙ shared_cut c.args.inside.now _ c.in-Some.name.now c.in-Some.ensures.words c.requires
