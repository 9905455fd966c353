-- The settings of the program that a parse reads are those of `top_app`.
use Rattle.std.proofs.Common.{ap, ◌∙◌, true}
use Rattle.std.proofs.lemmas.Result.{IfOk-weaker}
use Rattle.clap.specs.Simple.{Shape, app_of_fields, on_top}
use Rattle.command_line.specs.CommandLine.{top_app}
use Rattle.command_line.proofs.commands.top_command.Goals as goal

pub returns : goal.returns
unfolding top_app
returns c = IfOk-weaker c.bin_name.result _ _
    (λ r named. ap app_of_fields named.0 ∙ (ap app_of_fields c.arg_required_else_help.ensures
    ∙ ap (on_top (λ (s : Shape). record s { arg_required_else_help = true })) (ap app_of_fields c.subcommand_required.ensures
    ∙ ap (on_top (λ (s : Shape). record s { subcommand_required = true })) (ap app_of_fields c.version.ensures
    ∙ ap (on_top (λ (s : Shape). record s { has_version = true })) c.bare_top_command.ensures))))
    c.bin_name.ensures
