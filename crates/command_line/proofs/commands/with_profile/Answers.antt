-- The command gets the option of `profile_rules`, which is not global.
use Rattle.std.proofs.lemmas.Result.{IfOk-weaker}
use Rattle.command_line.proofs.Adding.{one_more}
use Rattle.command_line.proofs.commands.with_profile.Goals as goal

pub returns : goal.returns
returns c = IfOk-weaker c.arg.result _ _ (λ r added. one_more _ _ _ _ added c.names_option.ensures.rule c.names_option.ensures.local) c.arg.ensures
