-- The command gets the arguments of `file_rules`, none of them global.
use Rattle.std.proofs.lemmas.Result.{IfOk-weaker}
use Rattle.command_line.proofs.Adding.{one_more, two_more}
use Rattle.command_line.proofs.commands.with_files.Goals as goal

pub returns : goal.returns
returns c =
    let first = one_more _ _ _ _ c.in_ok-arg.ensures c.path_argument.ensures.rule c.path_argument.ensures.local in
    IfOk-weaker c.arg-2.result _ _ (λ r added. two_more _ _ _ _ _ first (one_more _ _ _ _ added c.path_argument-2.ensures.rule c.path_argument-2.ensures.local)) c.arg-2.ensures
