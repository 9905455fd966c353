-- A parse reads an option that may be given any number of times as `names_rule` says.
use Rattle.std.proofs.Common.{ap, ◌∙◌, Some}
use Rattle.clap.specs.Walk.{Rule, rule_of}
use Rattle.clap.specs.declared.builder.action.ArgAction.TheVariants.{Append}
use Rattle.command_line.specs.CommandLine.{names_rule}
use Rattle.command_line.proofs.commands.names_option.Goals as goal

pub returns-clause-rule : goal.returns-clause-rule
unfolding names_rule
returns-clause-rule c =
    ap rule_of c.help.ensures ∙ ap rule_of c.value_name.ensures ∙ ap (λ (r : Rule). record r { value_names = 1 })
    (ap rule_of c.action.ensures ∙ ap (λ (r : Rule). record r { action = Some Append })
    (ap rule_of c.long.ensures ∙ ap (λ (r : Rule). record r { long = Some c.args.name.now }) c.new.ensures.rule))
