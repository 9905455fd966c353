-- A parse reads the subcommand `session` with its argument as `session_shape` says, and the
-- argument is not global.
use Rattle.std.proofs.Common.{ap, ◌∙◌}
use Rattle.std.proofs.lemmas.Result.{IfOk-weaker}
use Rattle.clap.specs.Simple.{App}
use Rattle.command_line.specs.CommandLine.{profile_rules, session_shape, with_rules}
use Rattle.command_line.proofs.commands.session_command.Goals as goal

pub returns-clause-shape : goal.returns-clause-shape
unfolding session_shape
returns-clause-shape c = IfOk-weaker c.with_profile.result _ _
    (λ r more. ap (λ (a : App). a.top) (more.0 ∙ ap (λ (a : App). with_rules a profile_rules) c.bare_session_command.ensures.shape))
    c.with_profile.ensures

pub returns-clause-local : goal.returns-clause-local
returns-clause-local c = IfOk-weaker c.with_profile.result _ _ (λ r more. more.1 ∙ c.bare_session_command.ensures.local) c.with_profile.ensures
