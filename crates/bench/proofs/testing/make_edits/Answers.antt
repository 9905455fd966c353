use Rattle.std.proofs.Common.{[], ◌∷◌, ◌++◌, Some, map, rules}
use Rattle.bench.specs.Content.{put_message, set_for_all}
use Rattle.bench.specs.Edits.{envelope_edits}
use Rattle.bench.specs.Test.{after_all, envelope_of, put_of}
use Rattle.bench.specs.declared.setting.Setting.TheVariants as common
use Rattle.bench.proofs.Jobs.{scripts_leave_none, settings_leave_none, still_refused}
use Rattle.bench.proofs.testing.make_edits.Goals as goal

pub returns-in_err-set_delivery-clause-err : goal.returns-in_err-set_delivery-clause-err
returns-in_err-set_delivery-clause-err c =
    let job = c.args.job.now in
    let refused = still_refused c.in_err-set_delivery.field-0.0 (after_all c.args.bench.now.content (envelope_edits (envelope_of job)))
    (map put_of job.scripts.items ++ set_for_all (common.Main (Some job.main)) ∷ put_message job.id job.message ∷ []) c.in_err-set_delivery.ensures.err in
    search (rules, refused)

pub returns-clause-stale : goal.returns-clause-stale
returns-clause-stale c = λ none.
    let job = c.args.job.now in
    c.put_sample.ensures.stale
    (scripts_leave_none job.scripts.items c.set_delivery.new.bench.content c.put_scripts.new.bench.content
    (settings_leave_none (envelope_of job) c.args.bench.now.content c.set_delivery.new.bench.content none c.in_ok-set_delivery.ensures.ok)
    (rw c.deref.ensures.value at c.in_ok-put_scripts.ensures.ok))
