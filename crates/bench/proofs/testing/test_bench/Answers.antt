use Rattle.std.proofs.Common.{length, ap}
use Rattle.bench.proofs.testing.test_bench.Goals as goal

pub report_end-requires : goal.report_end-requires
report_end-requires g c = ap length c.in-Ok.ensures.stale
