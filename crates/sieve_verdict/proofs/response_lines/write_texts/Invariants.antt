use Rattle.std.proofs.Common.{take}
use Rattle.std.specs.List.{flat_map}
use Rattle.devices.specs.Writers.{Wrote}
use Rattle.sieve_verdict.specs.Lines.{spaced_word}
use Rattle.sieve_verdict.proofs.response_lines.write_texts.Given as goal

abbrev pub invariant-loop-i : goal.invariant-loop-i
invariant-loop-i g l = Wrote g.W.Sink.contents g.W.Faults.fault_count l.initial.writer l.writer (flat_map spaced_word (take l.i l.texts))
