-- The actions of a run with the internal flags, and how code reports whether one was accepted.
use Rattle.std.specs.Prelude.{◌≡◌, ⊤, ℕ, ◌-◌, ◌≤◌, Bool, true, false, List, [], ◌∷◌, length, map, take, nat_eq, nat_lt, if◌then◌else◌, Option, None, Some}
use Rattle.std.specs.List.{All}
use lib.Pointwise.{pointwise}
use Rattle.flag_lists.specs.Flags.{has_flag}
use Rattle.sieve_delivery.specs.declared.action.Action.{Action}
use Rattle.sieve_delivery.specs.declared.action.Action.TheVariants.{Store}
use Rattle.sieve_delivery.specs.declared.action.Entry.{Entry}
use Rattle.sieve_delivery.specs.declared.actions.Performed as performances
use Rattle.sieve_delivery.specs.declared.actions.Performed.TheVariants.{Accepted, Refused}
use Rattle.sieve_delivery.specs.Joining.{joined_with}
use Rattle.sieve_delivery.specs.Performing.{Performed, accepted, refused}
use Rattle.sieve_delivery.specs.State.{Entered}

pub record EntriesAndFlags : Type 0 where
  pub entries : List Entered
  pub flags : List (List ℕ)

-- an action with the command that entered it, without the rest of its entry
abbrev pub entered_of : Entry → Entered
entered_of entry = record { action = entry.action; origin = entry.origin }

abbrev pub entries_as : List Entry → List Entered
entries_as entries = map entered_of entries

-- the result for the run's actions, by the report on the one that was performed
abbrev pub performed_as : performances.Performed → List Entered → Performed
performed_as Accepted entries = accepted entries
performed_as (Refused kind) entries = refused kind

-- whether an action stores into a mailbox
abbrev pub stores_into : List ℕ → Action → Bool
stores_into mailbox (Store other flags filing) = pointwise nat_eq mailbox other
stores_into mailbox other = false

-- an entry whose action is joined with one that is performed
abbrev pub joined_in : Action → Entry → Entry
joined_in action entry = record entry { action = joined_with action entry.action }

-- the first `known` flags are among those of a store
abbrev pub AreAmong : (flags : List (List ℕ)) → (known : ℕ) → Action → Type 0
AreAmong flags known (Store mailbox own filing) = All (λ flag. has_flag own flag ≡ true) (take known flags)
AreAmong flags known other = ⊤

-- `known` is at most the number of flags. The first `known` flags are among the action's own, if it
-- is a store.
pub record IsKnown (flags : List (List ℕ)) (known : ℕ) (action : Action) : Type 0 where
  pub within : known ≤ length flags
  pub among : AreAmong flags known action

-- the same for each entry
abbrev pub AreKnown : (flags : List (List ℕ)) → List Entry → Type 0
AreKnown flags [] = ⊤
AreKnown flags (entry ∷ entries) = IsKnown flags entry.known entry.action × AreKnown flags entries

-- The number of known first flags after the flag at a place is taken out. Without a place, all
-- flags are taken out.
abbrev pub lowered : (place : Option ℕ) → (known : ℕ) → ℕ
lowered None known = 0
lowered (Some place) known = if nat_lt place known then known - 1 else known

abbrev pub lowered_in : (place : Option ℕ) → Entry → Entry
lowered_in place entry = record entry { known = lowered place entry.known }
