use Rattle.std.proofs.Common.{rules}
use Rattle.bench.proofs.Jobs.{put_next, put_refused}
use Rattle.bench.proofs.testing.put_scripts.Goals as goal

pub loop-script-preserved : goal.loop-script-preserved
loop-script-preserved c =
    put_next _ _ _ _ c.script-item.result _ c.loop-script-test.true c.script-item.is c.loop-script.invariant c.in_ok-put_copied.ensures.ok

pub returns-in_err-put_copied-clause-err : goal.returns-in_err-put_copied-clause-err
returns-in_err-put_copied-clause-err c =
    let refused = put_refused c.loop-script.bench.content c.args.scripts.now c.loop-script.script-index c.script-item.result c.in_err-put_copied.field-0.0 _ c.loop-script-test.true c.script-item.is c.loop-script.invariant c.in_err-put_copied.ensures.err in
    search (rules, refused)
