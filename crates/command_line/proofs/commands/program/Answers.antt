-- A parse reads the program with its subcommands as `the_app` says.
use Rattle.std.proofs.Common.{ap₂, ◌∙◌}
use Rattle.std.proofs.lemmas.Result.{IfOk-weaker}
use Rattle.clap.specs.Simple.{with_subcommand}
use Rattle.command_line.specs.CommandLine.{the_app}
use Rattle.command_line.proofs.commands.program.Goals as goal

pub returns : goal.returns
unfolding the_app
returns c = IfOk-weaker c.subcommand.result _ _
    (λ r added. added.shape c.in_ok-test_command.ensures.local ∙ ap₂ with_subcommand c.in_ok-with_dump.ensures c.in_ok-test_command.ensures.shape)
    c.subcommand.ensures
