use Rattle.std.proofs.Common.{◌≡◌, ◌++◌, ℕ, List, drop}
use Rattle.std.specs.List.{flat_map}
use Rattle.devices.specs.Writers.{Wrote}
use Rattle.sieve_dump.specs.view.Marked.{marked_string}
use Rattle.sieve_dump.proofs.strings.write_marked_strings.Given as goal

-- The octets that were written, and then the texts of the strings that are left. Together they are
-- the texts of all strings but the first.
abbrev pub invariant-loop-i : goal.invariant-loop-i
invariant-loop-i g l = (done : List ℕ) × Wrote g.W.Sink.contents g.W.Faults.fault_count l.initial.writer l.writer done × (done ++ flat_map marked_string (drop l.i l.strings) ≡ flat_map marked_string (drop 1 l.strings))
