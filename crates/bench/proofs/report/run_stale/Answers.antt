use Rattle.std.proofs.Common.{◌≡◌, ℕ, List, suc, true, None, Some, rules, ap, add-one, Result, Ok, Err, OnErr, is_none, arith}
use Rattle.std.specs.Map.{values_of}
use Rattle.std.specs.Prelude.{slice_get}
use Rattle.indexmap.specs.Layout.{set_value_at}
use Rattle.sieve_verdict.specs.Verdict.{Verdict}
use Rattle.bench.specs.Content.{Sample}
use Rattle.bench.specs.Report.{verdict_by}
use Rattle.bench.specs.view.Site.{site_as}
use Rattle.bench.specs.declared.entry.MessageEntry.{MessageEntry}
use Rattle.bench.specs.view.Entry.{is_stale, refreshed, runs_at}
use Rattle.bench.proofs.Refreshing.{Refreshing, starts, one_more, refused, skipped, none_left, all_run, distinct-messages, same_value}
use Rattle.bench.proofs.report.run_stale.Goals as goal
use Rattle.bench.proofs.report.run_stale.Goals.{in-Some+in_ok-refresh, in_default}

pub loop-index-init : goal.loop-index-init
loop-index-init c = record {
  ran = starts _ _ _ c.requires;
  unique = c.len-count.ensures.unique;
  all = omega (arith, c.len-count.ensures.len);
}

pub returns-in_err-refresh-clause-messages : goal.returns-in_err-refresh-clause-messages
returns-in_err-refresh-clause-messages c =
    let at : slice_get (values_of c.loop-index.messages.entries) c.loop-index.index ≡ Some c.in-Some.entry.now = search rules in
    rw (c.in_err-refresh.ensures.err, same_value c.loop-index.messages.entries c.loop-index.index c.in-Some.entry.now at) c.loop-index.invariant.ran.messages

pub returns-in_err-refresh-clause-due : goal.returns-in_err-refresh-clause-due
returns-in_err-refresh-clause-due c =
    let at : slice_get (values_of c.loop-index.messages.entries) c.loop-index.index ≡ Some c.in-Some.entry.now = search rules in
    rw (c.in_err-refresh.ensures.err, same_value c.loop-index.messages.entries c.loop-index.index c.in-Some.entry.now at) c.loop-index.invariant.ran.kept

pub returns-in_err-refresh-clause-unique : goal.returns-in_err-refresh-clause-unique
returns-in_err-refresh-clause-unique c =
    let at : slice_get (values_of c.loop-index.messages.entries) c.loop-index.index ≡ Some c.in-Some.entry.now = search rules in
    rw (c.in_err-refresh.ensures.err, same_value c.loop-index.messages.entries c.loop-index.index c.in-Some.entry.now at)
    (distinct-messages c.args.messages.now.entries c.loop-index.messages.entries c.loop-index.invariant.ran.messages c.loop-index.invariant.unique)

on_err : {T E : Type 0} (r : Result T E) {P : Type 0} → P → OnErr r P
on_err (Ok x) p = tt
on_err (Err e) p = p

pub returns-in_err-refresh-clause-refused : goal.returns-in_err-refresh-clause-refused
returns-in_err-refresh-clause-refused c =
    let at : slice_get (values_of c.loop-index.messages.entries) c.loop-index.index ≡ Some c.in-Some.entry.now = search rules in
    let stale : is_stale c.in-Some.entry.now ≡ true = ap is_none c.in_err-refresh.ensures.stale in
    rw (c.in_err-refresh.ensures.err, same_value c.loop-index.messages.entries c.loop-index.index c.in-Some.entry.now at, c.in_err-refresh.ensures.ran)
    (on_err c.from_residual.result (refused _ c.args.messages.now.entries c.loop-index.messages.entries c.loop-index.index c.args.meter.now c.loop-index.meter c.in-Some.entry.now c.loop-index.invariant.ran at stale))

pub loop-index-preserved : goal.loop-index-preserved
loop-index-preserved c =
    let due : Sample → Verdict = verdict_by (site_as c.args.site.now) in
    let old : List (List ℕ × MessageEntry) = c.args.messages.now.entries in
    let ran : Refreshing due old c.match-get_index_mut.messages.entries (suc c.loop-index.index) c.args.meter.now c.match-get_index_mut.meter =
    elim c.match-get_index_mut.branch [
      | in-Some+in_ok-refresh w ↦
          (let at : slice_get (values_of c.loop-index.messages.entries) c.loop-index.index ≡ Some w.in-Some.entry.now = search rules in
          let es : c.match-get_index_mut.messages.entries ≡ set_value_at c.loop-index.messages.entries c.loop-index.index (refreshed due w.in-Some.entry.now) = search rules in
          let runs : c.match-get_index_mut.meter ≡ runs_at w.in-Some.entry.now c.loop-index.meter = search rules in
          rw (es, runs) (one_more due old c.loop-index.messages.entries c.loop-index.index c.args.meter.now c.loop-index.meter w.in-Some.entry.now c.loop-index.invariant.ran at))
      | in_default w ↦
          (let none : slice_get (values_of c.loop-index.messages.entries) c.loop-index.index ≡ None = search rules in
          rw (w.messages-is, w.meter-is) (skipped due old c.loop-index.messages.entries c.loop-index.index c.args.meter.now c.loop-index.meter c.loop-index.invariant.ran none))
    ] in
    record {
      ran = rw add-one ran;
      unique = c.loop-index.invariant.unique;
      all = c.loop-index.invariant.all;
    }

pub returns-clause-unique : goal.returns-clause-unique
returns-clause-unique c = distinct-messages c.args.messages.now.entries c.loop-index.messages.entries c.loop-index.invariant.ran.messages c.loop-index.invariant.unique

pub returns-clause-stale : goal.returns-clause-stale
returns-clause-stale c = none_left _ c.args.messages.now.entries c.loop-index.messages.entries c.loop-index.index c.args.meter.now c.loop-index.meter c.loop-index.invariant.ran (omega arith)

pub returns-clause-runs : goal.returns-clause-runs
returns-clause-runs c = all_run _ c.args.messages.now.entries c.loop-index.messages.entries c.loop-index.index c.args.meter.now c.loop-index.meter c.loop-index.invariant.ran (omega arith)
