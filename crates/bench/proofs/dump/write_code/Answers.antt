use Rattle.std.proofs.Common.{drop, ◌<◌, ◌≤◌, ◌+◌, subst}
use Rattle.sieve_dump.specs.Dump.{line_at}
use Rattle.sieve_code.specs.view.Code.{ops_of}
use Rattle.bench.specs.Dump.{code_text, lines_from}
use Rattle.bench.proofs.Dumping.{lines_cut, no_lines}
use Rattle.bench.proofs.Writing.{ends, goes_on_from, stops}
use Rattle.bench.proofs.dump.write_code.Goals as goal

pub returns-in_err-write_operation : goal.returns-in_err-write_operation
returns-in_err-write_operation g c =
    let ops = ops_of c.args.code.now in
    stops _ _ _ c.from_residual.ensures.0 _ _ _ (line_at ops c.loop-i.i) (lines_from (c.loop-i.i + 1) (drop (c.loop-i.i + 1) ops)) (lines_from c.loop-i.i (drop c.loop-i.i ops)) (code_text ops) c.loop-i.invariant (lines_cut ops c.loop-i.i (subst (λ n. c.loop-i.i < n) c.len-i-end.ensures c.loop-i-test.true)) c.in_err-write_operation.ensures

pub loop-i-preserved : goal.loop-i-preserved
loop-i-preserved g c =
    let ops = ops_of c.args.code.now in
    goes_on_from _ _ _ _ _ (line_at ops c.loop-i.i) (lines_from (c.loop-i.i + 1) (drop (c.loop-i.i + 1) ops)) (lines_from c.loop-i.i (drop c.loop-i.i ops)) (code_text ops) c.loop-i.invariant (lines_cut ops c.loop-i.i (subst (λ n. c.loop-i.i < n) c.len-i-end.ensures c.loop-i-test.true)) c.in_ok-write_operation.ensures

pub returns : goal.returns
returns g c =
    let ops = ops_of c.args.code.now in
    ends _ _ _ _ (lines_from c.loop-i.i (drop c.loop-i.i ops)) (code_text ops) (no_lines ops c.loop-i.i (subst (λ n. n ≤ c.loop-i.i) c.len-i-end.ensures c.loop-i-test.false)) c.loop-i.invariant
