-- A parse reads an option that its name names as `name_rule` says.
use Rattle.std.proofs.Common.{ap, ◌∙◌, Some}
use Rattle.clap.specs.Walk.{Rule, rule_of}
use Rattle.command_line.specs.CommandLine.{name_rule}
use Rattle.command_line.proofs.commands.name_option.Goals as goal

pub returns-clause-rule : goal.returns-clause-rule
unfolding name_rule
returns-clause-rule c =
    ap rule_of c.help.ensures ∙ ap rule_of c.value_name.ensures ∙ ap (λ (r : Rule). record r { value_names = 1 })
    (ap rule_of c.long.ensures ∙ ap (λ (r : Rule). record r { long = Some c.args.name.now }) c.new.ensures.rule)
