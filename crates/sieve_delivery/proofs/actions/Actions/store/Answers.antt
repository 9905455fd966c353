use Rattle.std.proofs.Common.{◌≡◌, ◌∙◌, ℕ, List, true, false, ap, rules}
use Rattle.std.proofs.lemmas.Result.{IfOk-weaker}
use Rattle.std.specs.List.{list_any}
use Rattle.sieve_delivery.specs.Conflicts.{is_rejection}
use Rattle.sieve_delivery.specs.Joining.{same_action}
use Rattle.sieve_delivery.specs.Performing.{accepted, entry_at, origin_at, with_entry, with_room}
use Rattle.sieve_delivery.specs.State.{actions_in}
use Rattle.sieve_delivery.specs.declared.action.Action.TheVariants.{Store}
use Rattle.sieve_delivery.specs.declared.actions.Performed as performances
use Rattle.sieve_delivery.specs.view.Actions.{performed_as}
use Rattle.sieve_delivery.specs.view.Delivery.{delivery_as}
use Rattle.sieve_delivery.proofs.InTheWay.{store_refused, store_with_room}
use Rattle.sieve_delivery.proofs.actions.Actions.store.Goals as goal

pub returns-then-has_rejection-clause-value : goal.returns-then-has_rejection-clause-value
returns-then-has_rejection-clause-value c =
    let origin = origin_at (delivery_as c.args.delivery.now) c.args.line in
    let there : list_any is_rejection (actions_in c.args.self.now.entries) ≡ true = search rules in
    store_refused c.args.mailbox c.args.self.now.flags c.args.filing origin c.args.self.now.entries there

pub returns-then-has_store-clause-value : goal.returns-then-has_store-clause-value
returns-then-has_store-clause-value c =
    let old = c.args.self.now in let origin = origin_at (delivery_as c.args.delivery.now) c.args.line in
    let none : list_any is_rejection (actions_in old.entries) ≡ false = search rules in
    let room : accepted c.join_flags.new.self.entries ≡ with_room (entry_at (delivery_as c.args.delivery.now) c.args.line (Store c.args.mailbox old.flags c.args.filing)) old.entries = search rules in
    room ∙ store_with_room c.args.mailbox old.flags c.args.filing origin old.entries none

pub returns-clause-value : goal.returns-clause-value
returns-clause-value c =
    let old = c.args.self.now in let mailbox = c.args.mailbox in let filing = c.args.filing in let delivery = delivery_as c.args.delivery.now in
    let action = Store mailbox c.in_ok-flags.flags filing in
    let none : list_any is_rejection (actions_in old.entries) ≡ false = search rules in
    let new : list_any (same_action action) (actions_in old.entries) ≡ false = search rules in
    let flags : c.in_ok-flags.flags ≡ old.flags = search rules in
    IfOk-weaker c.push.result (λ (added : performances.Performed). list_any (same_action action) (actions_in old.entries) ≡ false → performed_as added c.push.new.self.entries ≡ with_room (entry_at delivery c.args.line action) old.entries)
    (λ (added : performances.Performed). performed_as added c.push.new.self.entries ≡ with_entry (entry_at delivery c.args.line (Store mailbox old.flags filing)) old.entries)
    (λ added is. is new ∙ ap (λ (f : List (List ℕ)). with_room (entry_at delivery c.args.line (Store mailbox f filing)) old.entries) flags ∙ store_with_room mailbox old.flags filing (origin_at delivery c.args.line) old.entries none)
    c.push.ensures.value
