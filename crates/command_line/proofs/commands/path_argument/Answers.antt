-- A parse reads a path that must be there as `path_rule` says.
use Rattle.std.proofs.Common.{ap, ◌∙◌, true}
use Rattle.clap.specs.Walk.{Rule, rule_of}
use Rattle.command_line.specs.CommandLine.{path_rule}
use Rattle.command_line.proofs.commands.path_argument.Goals as goal

pub returns-clause-rule : goal.returns-clause-rule
unfolding path_rule
returns-clause-rule c =
    ap rule_of c.required.ensures ∙ ap (λ (r : Rule). record r { required = true })
    (ap rule_of c.help.ensures ∙ ap rule_of c.value_name.ensures ∙ ap (λ (r : Rule). record r { value_names = 1 }) c.new.ensures.rule)
