use Rattle.std.proofs.Common.{drop}
use Rattle.sieve_code.specs.view.Code.{ops_of}
use Rattle.bench.specs.Dump.{code_text, lines_from}
use Rattle.bench.proofs.Writing.{Writing}
use Rattle.bench.proofs.dump.write_code.Given as goal

-- the lines of the operations that are left are to be written
abbrev pub invariant-loop-i : goal.invariant-loop-i
invariant-loop-i g l =
    Writing g.W.Sink.contents g.W.Faults.fault_count l.initial.writer l.writer (lines_from l.i (drop l.i (ops_of l.code))) (code_text (ops_of l.code))
