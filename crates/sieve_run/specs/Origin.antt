-- The command that entered an action.
use Rattle.std.specs.Prelude.{◌≡◌, ◌⊎◌, ℕ, List, [], ◌∷◌, ◌++◌, map}
use Rattle.sieve_delivery.specs.Joining.{joined_entry}
use Rattle.sieve_delivery.specs.Performing.{entry_at}
use Rattle.sieve_delivery.specs.Delivery.{Delivery}
use Rattle.sieve_delivery.specs.State.{Entered}
use Rattle.sieve_delivery.specs.declared.action.Deed.{Deed}

-- The entries after a command at a line performed an action. They are the old ones, as after a
-- refusal, or the old ones with the action joined to them. Or they are the old ones and then a new
-- entry, which has the action and this command.
abbrev pub ComesOf : Delivery → (line : ℕ) → Deed → (old new : List Entered) → Type 0
ComesOf delivery line deed old new =
    (new ≡ old) ⊎ ((new ≡ map (joined_entry deed.action) old) ⊎ (new ≡ old ++ entry_at delivery line deed.action ∷ []))
