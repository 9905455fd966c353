use Rattle.std.proofs.Common.{not, ap}
use Rattle.message_text.proofs.GroupLemmas.{span_at}
use Rattle.message_text.proofs.fields.span_of.Goals as goal

pub returns-clause-span : goal.returns-clause-span
returns-clause-span c =
    span_at c.args.octets.now c.args.start c.args.line.end c.args.line.next c.in_ok-head.head.name_len c.in_ok-head.head.colon _ _ c.name_hash.ensures (ap not c.continues_at.ensures.is) c.requires.ordered c.requires.end_within c.requires.next_within c.in_ok-head.ensures.some
