use Rattle.std.proofs.Common.{◌<◌, length, arith}
use Rattle.std.proofs.lemmas.Bool.Decides.{nat_tests}
use Rattle.mime_text.proofs.EndedLines.{fed_at, whole_line}
use Rattle.mime_text.proofs.lines.next_line.Goals as goal

pub returns-in-Some-clause-lines : goal.returns-in-Some-clause-lines
returns-in-Some-clause-lines c =
    let found = c.in-Some.ensures in
    rw (c.split_at.ensures.front, c.split_at.ensures.back) (fed_at c.args.text.now c.in-Some.feed found.0.before found.0.high found.1)

pub returns-in-None-clause-lines : goal.returns-in-None-clause-lines
returns-in-None-clause-lines c =
    let some : 0 < length c.args.text.now = grind (arith, nat_tests) in
    rw (c.split_at-in-None.ensures.front, c.split_at-in-None.ensures.back) (whole_line c.args.text.now some c.in-None.ensures)
