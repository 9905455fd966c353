-- The command gets the option of `clock_rules`, which is not global.
use Rattle.std.proofs.lemmas.Result.{IfOk-weaker}
use Rattle.command_line.proofs.Adding.{one_more}
use Rattle.command_line.proofs.commands.with_clock.Goals as goal

pub returns : goal.returns
returns c = IfOk-weaker c.arg.result _ _ (λ r added. one_more _ _ _ _ added c.name_option.ensures.rule c.name_option.ensures.local) c.arg.ensures
