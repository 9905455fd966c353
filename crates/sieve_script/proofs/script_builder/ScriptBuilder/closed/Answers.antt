use Rattle.std.proofs.Common.{ap, sym, ◌∙◌, Option}
use Rattle.std.proofs.lemmas.Result.{IfOk-weaker}
use Rattle.std.specs.declared.alloc.Global.{Global}
use Rattle.std.specs.declared.vec.Vec.{Vec}
use Rattle.sieve_script.specs.declared.script.Branch.{Branch}
use Rattle.sieve_script.specs.view.Script.{else_as, open_before, statements_before}
use Rattle.sieve_script.proofs.script_builder.ScriptBuilder.closed.Goals as goal

pub returns-in-Some : goal.returns-in-Some
returns-in-Some c =
    let done = c.args.self.done.items in
    IfOk-weaker c.pushed.result _ _
    (λ new said rest.
    said rest
    ∙ ap (statements_before done) (c.from_end.ensures rest)
    ∙ sym (ap (λ (o : Option (Vec Branch Global)). statements_before done (open_before o (record { otherwise = else_as c.args.otherwise; rest = rest }))) c.in-Some.is))
    c.pushed.ensures
