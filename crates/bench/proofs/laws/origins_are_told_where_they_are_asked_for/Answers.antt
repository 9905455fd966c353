use Rattle.std.proofs.Common.{◌++◌, ap}
use Rattle.std.specs.List.{flat_map}
use Rattle.sieve_verdict.specs.Lines.{lookup_lines}
use Rattle.bench.specs.Report.{indented, told_lines}
use Rattle.bench.proofs.laws.origins_are_told_where_they_are_asked_for.Goals as goal

pub returns : goal.returns
returns c = λ profile mailbox verdict unasked. ap (λ traced. flat_map indented (told_lines traced mailbox verdict ++ lookup_lines verdict)) unasked
