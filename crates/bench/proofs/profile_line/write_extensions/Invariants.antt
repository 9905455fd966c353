use Rattle.std.proofs.Common.{drop, filter}
use Rattle.std.specs.List.{flat_map}
use Rattle.sieve_profile.specs.Profile.{has}
use Rattle.bench.specs.Report.{extension_text}
use Rattle.bench.proofs.Writing.{Writing}
use Rattle.bench.proofs.profile_line.write_extensions.Given as goal

-- the names of those that are left are to be written
abbrev pub invariant-loop-extension : goal.invariant-loop-extension
invariant-loop-extension g l =
    Writing g.W.Sink.contents g.W.Faults.fault_count l.initial.writer l.writer
    (flat_map extension_text (filter (has l.profile) (drop l.extension-index l.extensions))) (flat_map extension_text (filter (has l.profile) l.extensions))
