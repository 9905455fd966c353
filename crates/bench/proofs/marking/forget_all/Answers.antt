use Rattle.std.proofs.Common.{◌≡◌, refl, ap, ◌∙◌, add-one, length, arith}
use Rattle.bench.specs.view.Entry.{forgotten, messages_of}
use Rattle.bench.proofs.Entries.{all_changed, one_turn, so_far}
use Rattle.bench.proofs.Marks.{messages-all_marked}
use Rattle.bench.proofs.Refreshing.{distinct-messages}
use Rattle.bench.proofs.marking.forget_all.Goals as goal

pub loop-index-init : goal.loop-index-init
loop-index-init c = record { marked = refl; unique = c.len-count.ensures.unique; all = c.len-count.ensures.len }

pub loop-index-preserved : goal.loop-index-preserved
loop-index-preserved c = record {
  marked = rw add-one (one_turn forgotten c.args.messages.now.entries c.loop-index.messages.entries c.forget_at.new.messages.entries c.loop-index.index c.forget_at.ensures c.loop-index.invariant.marked);
  unique = c.loop-index.invariant.unique;
  all = c.loop-index.invariant.all;
}

pub returns-clause-entries : goal.returns-clause-entries
returns-clause-entries c =
    let end : c.loop-index.index ≡ length c.args.messages.now.entries = omega (arith, c.loop-index.invariant.all) in
    c.loop-index.invariant.marked ∙ ap (so_far forgotten c.args.messages.now.entries) end ∙ all_changed forgotten c.args.messages.now.entries

pub returns-clause-messages : goal.returns-clause-messages
returns-clause-messages c =
    let end : c.loop-index.index ≡ length c.args.messages.now.entries = omega (arith, c.loop-index.invariant.all) in
    ap messages_of (c.loop-index.invariant.marked ∙ ap (so_far forgotten c.args.messages.now.entries) end ∙ all_changed forgotten c.args.messages.now.entries) ∙ messages-all_marked c.args.messages.now.entries

pub returns-clause-unique : goal.returns-clause-unique
returns-clause-unique c =
    let end : c.loop-index.index ≡ length c.args.messages.now.entries = omega (arith, c.loop-index.invariant.all) in
    distinct-messages c.args.messages.now.entries c.loop-index.messages.entries
    (ap messages_of (c.loop-index.invariant.marked ∙ ap (so_far forgotten c.args.messages.now.entries) end ∙ all_changed forgotten c.args.messages.now.entries) ∙ messages-all_marked c.args.messages.now.entries) c.loop-index.invariant.unique
