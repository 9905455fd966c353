use Rattle.std.proofs.Common.{arith}
use Rattle.message_text.proofs.LineLemmas.{line_to_end, line_to_feed}
use Rattle.message_text.proofs.lines.line_at.Goals as goal

pub returns-in_default : goal.returns-in_default
returns-in_default c = line_to_end c.args.text.now c.args.start c.requires c.in_default.ensures

pub returns : goal.returns
returns c =
    let found = c.in-Some.ensures in
    line_to_feed c.args.text.now c.args.start c.in-Some.len _ (omega arith) found.0.before found.0.high found.1 c.without_return.ensures
