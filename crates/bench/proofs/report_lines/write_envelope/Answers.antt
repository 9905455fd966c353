use Rattle.bench.proofs.Lines.{envelope_pieces}
use Rattle.bench.proofs.report_lines.write_envelope.Goals as goal

pub returns : goal.returns
returns g c = rw (envelope_pieces c.args.envelope.now _ _ _ c.as_slice.ensures c.as_slice-2.ensures c.as_slice-3.ensures) c.write_pieces.ensures
