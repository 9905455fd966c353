use Rattle.std.proofs.Common.{◌≡◌, ◌∙◌, List, None, ℕ, ap, refl, subst, sym}
use Rattle.std.specs.Prelude.{IfOk}
use Rattle.sieve_delivery.specs.Ending.{Ending}
use Rattle.sieve_delivery.specs.Performing.{deed_of, performs}
use Rattle.sieve_delivery.specs.Storing.{stored_flags}
use Rattle.sieve_delivery.specs.declared.action.Action.TheVariants.{Store}
use Rattle.sieve_delivery.specs.declared.action.Deed.{Deed}
use Rattle.sieve_delivery.specs.declared.ending.Ending as endings
use Rattle.sieve_delivery.specs.view.Delivery.{delivery_as}
use Rattle.sieve_delivery.specs.view.Ending.{ending_by}
use Rattle.packed_strings.specs.view.Refs.{settings_ref_as}
use Rattle.sieve_delivery.specs.view.State.{state_of}
use Rattle.sieve_delivery.proofs.Known.{ended_so}
use Rattle.sieve_delivery.proofs.acting.store.Goals as goal

pub returns-in_ok-added-in-None : goal.returns-in_ok-added-in-None
returns-in_ok-added-in-None c =
    let e = c.in_ok-added-in-None.ensures in let old = state_of c.args.state.now in let d = delivery_as c.args.delivery.now in
    let said = settings_ref_as c.args.settings.now in
    let deed : Deed = deed_of (Store c.args.mailbox old.flags c.args.filing) said.copy in
    let none : None ≡ said.flags = sym c.in-None.is in
    subst (λ (e : Ending). IfOk c.end_with.result (λ (ending : endings.Ending). ending_by ending (state_of c.end_with.new.state) ≡ e))
    (ended_so d c.args.line deed old _ c.in_ok-added-in-None.added e.kept e.value
    (ap (λ (l : List (List ℕ)). record old { entries = c.store.new.self.entries; flags = l }) e.flags)
    ∙ ap (λ o. performs d c.args.line (deed_of (Store c.args.mailbox (stored_flags old o) c.args.filing) said.copy) old) none
    ∙ ap (λ f. performs d c.args.line (deed_of (Store c.args.mailbox (stored_flags old said.flags) f) said.copy) old) c.requires)
    (c.end_with.ensures _ deed refl refl)
