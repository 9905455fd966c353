use Rattle.std.proofs.Common.{◌∙◌, length, map, ap, sym}
use Rattle.sieve_delivery.specs.view.Actions.{lowered_in}
use Rattle.sieve_delivery.proofs.Known.{all_changed_so, all_written, one_changed_more}
use Rattle.sieve_delivery.proofs.entries.lower_all.Goals as goal

pub loop-entry-preserved : goal.loop-entry-preserved
loop-entry-preserved c =
    one_changed_more (lowered_in c.args.place) c.deref_mut-entry-items.result.now c.loop-entry.entry-items c.loop-entry.entry-index c.entry-item.result c.lower.new.entry c.loop-entry-test.true c.loop-entry.invariant
    c.lower.ensures

pub returns : goal.returns
returns c =
    all_written c.args.entries.now.len c.loop-entry.entry-items c.args.entries.now.items (map (lowered_in c.args.place) c.args.entries.now.items)
    (c.loop-entry.auto.entry-items ∙ ap length c.deref_mut-entry-items.ensures.value) (sym (ap length c.deref_mut-entry-items.ensures.value) ∙ c.deref_mut-entry-items.ensures.len)
    (c.loop-entry.invariant ∙ all_changed_so (lowered_in c.args.place) c.deref_mut-entry-items.result.now c.loop-entry.entry-index c.loop-entry-test.false ∙ ap (map (lowered_in c.args.place)) c.deref_mut-entry-items.ensures.value)
