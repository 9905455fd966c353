use Rattle.std.proofs.Common.{rules}
use Rattle.bench.specs.Content.{put_over}
use Rattle.bench.specs.view.Entry.{sample_in}
use Rattle.bench.proofs.Entries.{entries}
use Rattle.bench.proofs.Marks.{due-put, stale-put}
use Rattle.bench.proofs.bench.Bench.put_message.Goals as goal

pub invariant_of-self : goal.invariant_of-self
invariant_of-self c = (rw c.in_err-put.ensures.err c.self.invariant.0, rw c.in_err-put.ensures.err c.self.invariant.1)

pub invariant_of-self-2 : goal.invariant_of-self-2
invariant_of-self-2 c =
    (rw c.in_ok-put.ensures.ok (due-put _ c.args.id (put_over c.in_ok-message.message (sample_in c.self.inside.messages.entries c.args.id)) c.self.inside.messages.entries c.self.invariant.0), c.in_ok-put.ensures.unique)

pub returns : goal.returns
returns c =
    ((search (rules, entries), rw (← c.self.view_is, c.in_ok-put.ensures.ok) (stale-put c.args.id (put_over c.in_ok-message.message (sample_in c.self.inside.messages.entries c.args.id)) c.self.inside.messages.entries c.self.invariant.1)), tt, search (rules, entries))
