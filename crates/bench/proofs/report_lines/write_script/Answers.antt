use Rattle.bench.proofs.Lines.{sound_line, faulty_line}
use Rattle.bench.proofs.report_lines.write_script.Goals as goal

pub returns-in-None : goal.returns-in-None
returns-in-None g c = rw (sound_line c.args.script.now.profile c.args.name.now c.args.script.now.text _ c.fault.ensures c.in-None.is) c.write_pieces.ensures

pub returns-in-Some : goal.returns-in-Some
returns-in-Some g c = rw (faulty_line c.args.script.now.profile c.args.name.now c.args.script.now.text _ _ _ _ c.fault.ensures c.in-Some.is c.word.ensures) c.write_pieces-in-Some.ensures
