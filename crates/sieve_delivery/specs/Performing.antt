-- How an action is performed in a run (RFC 5228, 2.10).
use Rattle.std.specs.Prelude.{ℕ, List, [], ◌∷◌, ◌++◌, length, map, Bool, not, ◌||◌, Option, None, Some, nat_lt, if◌then◌else◌}
use Rattle.std.specs.List.{list_any}
use Rattle.sieve_limits.specs.Limits.{action_limit}
use Rattle.sieve_delivery.specs.declared.action.Action.{Action}
use Rattle.sieve_delivery.specs.declared.action.Deed.{Deed}
use Rattle.sieve_delivery.specs.declared.action.Origin.{Origin}
use Rattle.sieve_delivery.specs.declared.error.ErrorKind.{ErrorKind}
use Rattle.sieve_delivery.specs.declared.error.ErrorKind.TheVariants.{TooManyActions}
use Rattle.sieve_delivery.specs.Delivery.{Delivery}
use Rattle.sieve_delivery.specs.State.{Entered, RunState, actions_in}
use Rattle.sieve_delivery.specs.Ending.{Ending, goes_on, failed}
use Rattle.sieve_delivery.specs.Joining.{same_action, joined_entry}
use Rattle.sieve_delivery.specs.Conflicts.{conflict_among}

-- The result of performing an action in a run. Either the run's actions are then these, or the
-- action isn't performed, for this error.
pub data Performed : Type 0 where
  accepted : (entries : List Entered) → Performed
  refused : (kind : ErrorKind) → Performed

abbrev pub unless : Option ErrorKind → Performed → Performed
unless None performed = performed
unless (Some kind) performed = refused kind

-- An action that is there already adds no entry, and none is taken away (RFC 5228, 2.10.1 and
-- 2.10.3). Past the limit there is one action too many (RFC 5228, 2.10.4).
abbrev pub with_room : Entered → List Entered → Performed
with_room entry entries =
    if list_any (same_action entry.action) (actions_in entries) then accepted (map (joined_entry entry.action) entries) else
    if nat_lt (length entries) action_limit then accepted (entries ++ entry ∷ []) else refused TooManyActions

-- the same, unless an action that is there conflicts with it (RFC 5228, 2.10.1, 2.10.3 and 2.10.4)
abbrev pub with_entry : Entered → List Entered → Performed
with_entry entry entries = unless (conflict_among entry.action (actions_in entries)) (with_room entry entries)

-- an error of the script that runs, at a line of it (RFC 5228, 2.10.6)
abbrev pub fails_at : Delivery → ℕ → ErrorKind → RunState → Ending
fails_at delivery line kind state = failed (record { script = delivery.script; line = line; kind = kind }) state

-- an action, which may be a copy (RFC 3894, 3)
abbrev pub deed_of : Action → (copy : Bool) → Deed
deed_of action copy = record { action = action; leaves_keep = copy }

-- the command at a line of the script that runs
abbrev pub origin_at : Delivery → ℕ → Origin
origin_at delivery line = record { script = delivery.script; line = line }

-- an action as that command enters it
abbrev pub entry_at : Delivery → ℕ → Action → Entered
entry_at delivery line action = record { action = action; origin = origin_at delivery line }

-- An action takes the place of the implicit keep (RFC 5228, 2.10.2). A copy (RFC 3894, 3) and a
-- response (RFC 5230, 4.7) don't.
abbrev pub cancelled_by : Deed → RunState → Bool
cancelled_by deed state = not deed.leaves_keep || state.cancelled

-- How a command ends after its action was accepted or refused (RFC 5228, 2.10.2; RFC 3894, 3;
-- RFC 5230, 4.7).
abbrev pub ends_with : Delivery → ℕ → Deed → Performed → RunState → Ending
ends_with delivery line deed (accepted entries) state = goes_on (record state { entries = entries; cancelled = cancelled_by deed state })
ends_with delivery line deed (refused kind) state = fails_at delivery line kind state

-- a command performs an action
abbrev pub performs : Delivery → ℕ → Deed → RunState → Ending
performs delivery line deed state = ends_with delivery line deed (with_entry (entry_at delivery line deed.action) state.entries) state
