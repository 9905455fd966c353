use Rattle.std.proofs.Common.{subst}
use Rattle.devices.specs.Writers.{Writes}
use Rattle.sieve_dump.specs.Commands.{leaf_text}
use Rattle.sieve_dump.proofs.operation.write_leaf_at.Goals as goal

pub returns-in-None : goal.returns-in-None
unfolding leaf_text
returns-in-None g c = subst (λ l. Writes g.W.Sink.contents g.W.Faults.fault_count c.write_out.result c.args.writer.now c.write_out.new.writer (leaf_text l)) c.in-None.ensures c.write_out.ensures
