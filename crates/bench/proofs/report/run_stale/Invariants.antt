use Rattle.std.proofs.Common.{◌≤◌, length, nat_eq}
use Rattle.std.specs.List.{IsDistinct}
use Rattle.std.specs.Map.{keys_of}
use lib.Pointwise.{pointwise}
use Rattle.bench.specs.Report.{verdict_by}
use Rattle.bench.specs.view.Site.{site_as}
use Rattle.bench.proofs.Refreshing.{Refreshing}
use Rattle.bench.proofs.report.run_stale.Given as goal

-- the stale messages up to the index were run
abbrev pub invariant-loop-index : goal.invariant-loop-index
invariant-loop-index l = record {
  ran : Refreshing (verdict_by (site_as l.site)) l.fn.messages.entries l.messages.entries l.index l.fn.meter l.meter;
  unique : IsDistinct (pointwise nat_eq) (keys_of l.fn.messages.entries);
  all : length l.fn.messages.entries ≤ l.count;
}
