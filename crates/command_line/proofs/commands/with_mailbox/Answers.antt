-- The command gets the options of `mailbox_rules`, none of them global.
use Rattle.std.proofs.lemmas.Result.{IfOk-weaker}
use Rattle.command_line.proofs.Adding.{one_more, two_more}
use Rattle.command_line.proofs.commands.with_mailbox.Goals as goal

pub returns : goal.returns
returns c =
    let first = one_more _ _ _ _ c.in_ok-arg.ensures c.letter_option.ensures.rule c.letter_option.ensures.local in
    IfOk-weaker c.arg-2.result _ _ (λ r added. two_more _ _ _ _ _ first (one_more _ _ _ _ added c.name_option.ensures.rule c.name_option.ensures.local)) c.arg-2.ensures
