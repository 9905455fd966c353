use Rattle.std.proofs.Common.{◌≡◌, List, ℕ, ap, refl, subst}
use Rattle.std.specs.Prelude.{IfOk}
use Rattle.sieve_delivery.specs.Ending.{Ending}
use Rattle.sieve_delivery.specs.declared.ending.Ending as endings
use Rattle.sieve_delivery.specs.view.Delivery.{delivery_as}
use Rattle.sieve_delivery.specs.view.Ending.{ending_by}
use Rattle.sieve_delivery.specs.view.State.{state_of}
use Rattle.sieve_delivery.proofs.Known.{ended_so}
use Rattle.sieve_delivery.proofs.acting.perform.Goals as goal

pub returns : goal.returns
returns c =
    let e = c.in_ok-added.ensures in let old = state_of c.args.state.now in
    subst (λ (e : Ending). IfOk c.end_with.result (λ (ending : endings.Ending). ending_by ending (state_of c.end_with.new.state) ≡ e))
    (ended_so (delivery_as c.args.delivery.now) c.args.line c.args.deed old _ c.in_ok-added.added e.kept e.value
    (ap (λ (l : List (List ℕ)). record old { entries = c.add.new.self.entries; flags = l }) e.flags))
    (c.end_with.ensures _ c.args.deed refl refl)
