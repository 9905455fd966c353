use Rattle.bench.proofs.Lines.{total_pieces, unexpected_pieces}
use Rattle.bench.proofs.report_lines.write_total.Goals as goal

pub returns-in-None : goal.returns-in-None
returns-in-None g c = rw (c.in-None.is, total_pieces c.args.messages c.args.errors) c.write_pieces.ensures

pub returns-in-Some : goal.returns-in-Some
returns-in-Some g c = rw (c.in-Some.is, unexpected_pieces c.args.messages c.args.errors c.in-Some.count) c.write_pieces-in-Some.ensures
