-- A parse reads the subcommand `test` with its arguments as `test_shape` says, and none of the
-- arguments is global.
use Rattle.std.proofs.Common.{ap, ◌∙◌}
use Rattle.std.proofs.lemmas.Result.{IfOk-weaker}
use Rattle.clap.specs.Words.{App}
use Rattle.command_line.specs.CommandLine.{clock_rules, envelope_rules, file_rules, folder_rules, mailbox_rules, profile_rules, test_shape, with_rules}
use Rattle.command_line.proofs.commands.test_command.Goals as goal

pub returns-clause-shape : goal.returns-clause-shape
unfolding test_shape
returns-clause-shape c = IfOk-weaker c.with_files.result _ _
    (λ r files. ap (λ (a : App). a.top) (files.0 ∙ ap (λ (a : App). with_rules a file_rules)
    (c.in_ok-command-5.ensures.0 ∙ ap (λ (a : App). with_rules a profile_rules)
    (c.in_ok-command-4.ensures.0 ∙ ap (λ (a : App). with_rules a folder_rules)
    (c.in_ok-command-3.ensures.0 ∙ ap (λ (a : App). with_rules a clock_rules)
    (c.in_ok-command-2.ensures.0 ∙ ap (λ (a : App). with_rules a mailbox_rules)
    (c.in_ok-command.ensures.0 ∙ ap (λ (a : App). with_rules a envelope_rules) c.bare_test_command.ensures.shape)))))))
    c.with_files.ensures

pub returns-clause-local : goal.returns-clause-local
returns-clause-local c = IfOk-weaker c.with_files.result _ _
    (λ r files. files.1 ∙ c.in_ok-command-5.ensures.1 ∙ c.in_ok-command-4.ensures.1 ∙ c.in_ok-command-3.ensures.1 ∙ c.in_ok-command-2.ensures.1 ∙ c.in_ok-command.ensures.1 ∙ c.bare_test_command.ensures.local)
    c.with_files.ensures
