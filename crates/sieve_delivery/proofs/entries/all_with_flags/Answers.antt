use Rattle.std.proofs.Common.{◌≡◌, ◌++◌, [], ◌∷◌, List, subst, sym, rules}
use Rattle.sieve_delivery.specs.declared.action.Action.TheVariants.{Store}
use Rattle.sieve_delivery.specs.declared.action.Entry.{Entry}
use Rattle.sieve_delivery.specs.view.Actions.{AreKnown}
use Rattle.sieve_delivery.proofs.Known.{entry_remade, known_push}
use Rattle.sieve_delivery.proofs.entries.all_with_flags.Goals as goal

pub entry_with_flags-requires : goal.entry_with_flags-requires
entry_with_flags-requires c =
    let split : c.loop-there.there-iterator.rest.items ≡ c.in-Some.there ∷ c.next.new.self.rest.items = search rules in
    (subst (λ (l : List Entry). AreKnown c.args.flags.now l) split c.loop-there.invariant.1).0

pub loop-there-preserved : goal.loop-there-preserved
loop-there-preserved c =
    let flags = c.args.flags.now in let there = c.in-Some.there in let left = c.next.new.self.rest.items in let inv = c.loop-there.invariant in
    let made = c.in_ok-made.made in
    let split : c.loop-there.there-iterator.rest.items ≡ there ∷ left = search rules in
    let one : c.push.new.self.items ≡ c.loop-there.joined.items ++ made ∷ [] = search rules in (
      entry_remade (Store c.args.mailbox.now flags c.args.filing.now) c.loop-there.joined.items c.push.new.self.items c.loop-there.there-iterator.rest.items left _ there made one c.in_ok-made.ensures.entry split inv.0,
      (subst (λ (l : List Entry). AreKnown flags l) split inv.1).1,
      subst (λ (l : List Entry). AreKnown flags l) (sym one) (known_push flags c.loop-there.joined.items made inv.2 c.in_ok-made.ensures.known),
    )
