-- The octets that a turn writes go to the end of those that the turns before it wrote.
use Rattle.std.proofs.Common.{take, ◌++◌}
use Rattle.devices.proofs.Writing.{front_moves, wrote_both}
use Rattle.devices.proofs.writers.write_out.Goals as goal

pub loop-rest-preserved : goal.loop-rest-preserved
loop-rest-preserved g c =
    let (done, split, wrote) = c.loop-rest.invariant in
    let rest = c.loop-rest.rest.now in
    let n = c.in_ok-written.written in (
      done ++ take n rest,
      front_moves _ done rest c.split_at.result.1.now n c.split_at.ensures.back split,
      wrote_both _ _ _ _ _ done (take n rest) wrote c.in_ok-written.ensures.ok,
    )
