use Rattle.std.proofs.Common.{◌∙◌}
use Rattle.sieve_script.specs.Script.{no_commands}
use Rattle.sieve_script.specs.view.Script.{statement_as}
use Rattle.sieve_script.proofs.FromEnd.{put_turned}
use Rattle.sieve_script.proofs.script_builder.ScriptBuilder.finished.Goals as goal

pub returns : goal.returns
returns c =
    put_turned statement_as (λ before. before) c.in_ok-statements.statements.items c.reverse.new.self.items no_commands c.reverse.ensures.items
    ∙ c.in_ok-statements.ensures no_commands
