use Rattle.std.proofs.Common.{◌≡◌, map, refl, ap, ◌∙◌, add-one, length, arith}
use Rattle.bench.specs.view.Entry.{messages_of, unread}
use Rattle.bench.proofs.Entries.{all_changed, one_turn, so_far}
use Rattle.bench.proofs.Marks.{due-marked, messages-marked}
use Rattle.bench.proofs.Refreshing.{distinct-messages}
use Rattle.bench.proofs.marking.forget_readers.Goals as goal

pub loop-index-init : goal.loop-index-init
loop-index-init c = record { marked = refl; unique = c.len-count.ensures.unique; all = c.len-count.ensures.len }

pub loop-index-preserved : goal.loop-index-preserved
loop-index-preserved c = record {
  marked = rw add-one (one_turn (unread c.args.name.now) c.args.messages.now.entries c.loop-index.messages.entries c.forget_reader_at.new.messages.entries c.loop-index.index c.forget_reader_at.ensures c.loop-index.invariant.marked);
  unique = c.loop-index.invariant.unique;
  all = c.loop-index.invariant.all;
}

pub returns-clause-forgotten : goal.returns-clause-forgotten
returns-clause-forgotten c =
    let end : c.loop-index.index ≡ length c.args.messages.now.entries = omega (arith, c.loop-index.invariant.all) in
    let marked : c.loop-index.messages.entries ≡ map (λ e. (e.0, unread c.args.name.now e.1)) c.args.messages.now.entries =
    c.loop-index.invariant.marked ∙ ap (so_far (unread c.args.name.now) c.args.messages.now.entries) end ∙ all_changed (unread c.args.name.now) c.args.messages.now.entries in
    let messages : messages_of c.loop-index.messages.entries ≡ messages_of c.args.messages.now.entries = ap messages_of marked ∙ messages-marked c.args.name.now c.args.messages.now.entries in
    record {
      entries = marked;
      messages = messages;
      ids = distinct-messages c.args.messages.now.entries c.loop-index.messages.entries messages c.loop-index.invariant.unique;
      due = λ site scripts alike kept. rw marked (due-marked c.a_verdict_depends_on_what_it_looked_up.ensures site scripts c.args.name.now c.args.messages.now.entries alike kept);
    }

pub returns-clause-unique : goal.returns-clause-unique
returns-clause-unique c =
    let end : c.loop-index.index ≡ length c.args.messages.now.entries = omega (arith, c.loop-index.invariant.all) in
    distinct-messages c.args.messages.now.entries c.loop-index.messages.entries
    (ap messages_of (c.loop-index.invariant.marked ∙ ap (so_far (unread c.args.name.now) c.args.messages.now.entries) end ∙ all_changed (unread c.args.name.now) c.args.messages.now.entries) ∙ messages-marked c.args.name.now c.args.messages.now.entries) c.loop-index.invariant.unique
