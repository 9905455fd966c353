-- A parse reads an option that a letter names as `letter_rule` says.
use Rattle.std.proofs.Common.{ap, ◌∙◌, Some}
use Rattle.clap.specs.Walk.{Rule, rule_of}
use Rattle.command_line.specs.CommandLine.{letter_rule}
use Rattle.command_line.proofs.commands.letter_option.Goals as goal

pub returns-clause-rule : goal.returns-clause-rule
unfolding letter_rule
returns-clause-rule c =
    ap rule_of c.help.ensures ∙ ap rule_of c.value_name.ensures ∙ ap (λ (r : Rule). record r { value_names = 1 })
    (ap rule_of c.short.ensures ∙ ap (λ (r : Rule). record r { short = Some c.args.letter }) c.new.ensures.rule)
