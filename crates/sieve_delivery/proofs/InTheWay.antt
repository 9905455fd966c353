-- Conflicts with a store.
use Rattle.std.proofs.Common.{◌≡◌, ℕ, Bool, true, false, None, Some, List, [], ◌∷◌, refl, sym, ap, ◌∙◌}
use Rattle.std.specs.Prelude.{if◌then◌else◌}
use Rattle.std.specs.List.{list_any}
use Rattle.sieve_delivery.specs.Conflicts.{conflict_among, is_rejection}
use Rattle.sieve_delivery.specs.Performing.{refused, unless, with_entry, with_room}
use Rattle.sieve_delivery.specs.State.{Entered, actions_in}
use Rattle.sieve_delivery.specs.declared.action.Action.{Action}
use Rattle.sieve_delivery.specs.declared.action.Action.TheVariants.{Store, Redirect, Discard, Respond, Reject}
use Rattle.sieve_delivery.specs.declared.action.Filing.{Filing}
use Rattle.sieve_delivery.specs.declared.action.Origin.{Origin}
use Rattle.sieve_delivery.specs.declared.error.ErrorKind.TheVariants.{ConflictingActions}

-- a rejection alone conflicts with a store
pub of_a_store : (mailbox : List ℕ) (flags : List (List ℕ)) (filing : Filing) (actions : List Action)
    → conflict_among (Store mailbox flags filing) actions ≡ (if list_any is_rejection actions then Some ConflictingActions else None)
of_a_store mailbox flags filing [] = refl
of_a_store mailbox flags filing (Store other there kept ∷ actions) = of_a_store mailbox flags filing actions
of_a_store mailbox flags filing (Redirect address ∷ actions) = of_a_store mailbox flags filing actions
of_a_store mailbox flags filing (Discard ∷ actions) = of_a_store mailbox flags filing actions
of_a_store mailbox flags filing (Respond response ∷ actions) = of_a_store mailbox flags filing actions
of_a_store mailbox flags filing (Reject how reason ∷ actions) = refl

-- A store is refused if a rejection is there. Otherwise only room decides.
module _ (mailbox : List ℕ) (flags : List (List ℕ)) (filing : Filing) (origin : Origin) (entries : List Entered) where
  abbrev stored : Entered
  stored = record { action = Store mailbox flags filing; origin = origin }

  stands : (b : Bool) → list_any is_rejection (actions_in entries) ≡ b → unless (if b then Some ConflictingActions else None) (with_room stored entries) ≡ with_entry stored entries
  stands b there =
      sym (ap (λ c. unless c (with_room stored entries)) (of_a_store mailbox flags filing (actions_in entries) ∙ ap (λ any. if any then Some ConflictingActions else None) there))

  pub store_refused : list_any is_rejection (actions_in entries) ≡ true → refused ConflictingActions ≡ with_entry stored entries
  store_refused there = stands true there

  pub store_with_room : list_any is_rejection (actions_in entries) ≡ false → with_room stored entries ≡ with_entry stored entries
  store_with_room none = stands false none
