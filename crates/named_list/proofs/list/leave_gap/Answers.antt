use Rattle.std.proofs.Common.{None, refl}
use Rattle.named_list.specs.declared.slot.SlotKey.TheVariants.{Gap}
use Rattle.named_list.proofs.Entries.{gap_put, put_last}
use Rattle.named_list.proofs.list.leave_gap.Goals as goal

pub returns : goal.returns
returns g c =
    gap_put c.args.slots.now.entries c.insert.new.self.entries _ (Gap c.args.number, None) c.args.index _
    (put_last _ (λ a b. refl) (λ a name. refl) c.args.slots.now c.args.number _ c.in-Ok.ensures.entries c.requires.new) c.requires.within c.swap_remove_index.ensures.entry c.swap_remove_index.ensures.entries
