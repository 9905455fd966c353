use Rattle.bench.proofs.Lines.{addresses_pieces}
use Rattle.bench.proofs.report_lines.write_own_addresses.Goals as goal

pub returns : goal.returns
returns g c = rw (addresses_pieces c.args.addresses.now _ _ c.as_slice.ensures c.as_slice-2.ensures) c.write_pieces.ensures
