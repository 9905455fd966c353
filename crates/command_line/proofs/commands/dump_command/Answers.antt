-- A parse reads the subcommand `dump` with its argument as `dump_shape` says.
use Rattle.std.proofs.Common.{ap, ap₂, ◌∙◌}
use Rattle.std.proofs.lemmas.Result.{IfOk-weaker}
use Rattle.clap.specs.Simple.{App, with_rule}
use Rattle.command_line.specs.CommandLine.{dump_shape, profile_rules, with_rules}
use Rattle.command_line.proofs.commands.dump_command.Goals as goal

pub returns-clause-shape : goal.returns-clause-shape
unfolding dump_shape
returns-clause-shape c = IfOk-weaker c.arg.result _ _
    (λ r added. ap (λ (a : App). a.top) (added.shape c.path_argument-script.ensures.local
    ∙ ap₂ with_rule (c.in_ok-with_profile.ensures.0 ∙ ap (λ (a : App). with_rules a profile_rules) c.bare_dump_command.ensures.shape) c.path_argument-script.ensures.rule))
    c.arg.ensures
