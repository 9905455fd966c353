-- The subcommand `session` is added to the program.
use Rattle.std.proofs.Common.{ap₂, ◌∙◌}
use Rattle.std.proofs.lemmas.Result.{IfOk-weaker}
use Rattle.clap.specs.Simple.{with_subcommand}
use Rattle.command_line.proofs.commands.with_session.Goals as goal

pub returns : goal.returns
returns c = IfOk-weaker c.subcommand.result _ _
    (λ r added. added.shape c.in_ok-session_command.ensures.local ∙ ap₂ with_subcommand c.in_ok-top_command.ensures c.in_ok-session_command.ensures.shape)
    c.subcommand.ensures
