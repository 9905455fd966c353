use Rattle.std.proofs.Common.{arith}
use Rattle.session_text.proofs.Lines.{cut_line-at, cut_line-absent, cut_line-within}
use Rattle.session_text.proofs.line.find_lf.Goals as goal

pub returns-then-octet-eq10 : goal.returns-then-octet-eq10
returns-then-octet-eq10 c = (
  c.loop-i-test.true,
  cut_line-at c.args.octets.now c.loop-i.i c.loop-i-test.true c.loop-i.invariant c.if-octet-eq10.true,
  cut_line-within c.args.octets.now c.loop-i.i c.loop-i-test.true c.loop-i.invariant c.if-octet-eq10.true,
)

pub returns : goal.returns
returns c = cut_line-absent c.args.octets.now (λ k within. c.loop-i.invariant k (omega arith))
