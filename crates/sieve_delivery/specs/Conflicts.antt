-- Conflicts between actions (RFC 5230, 4.7; RFC 5429, 2.4).
use Rattle.std.specs.Prelude.{List, [], ◌∷◌, Bool, true, false, not, ◌&&◌, ◌||◌, Option, None, Some, if◌then◌else◌}
use Rattle.std.specs.Option.{option_or}
use Rattle.sieve_delivery.specs.declared.action.Action.{Action}
use Rattle.sieve_delivery.specs.declared.action.Action.TheVariants.{Discard, Respond, Reject}
use Rattle.sieve_delivery.specs.declared.error.ErrorKind.{ErrorKind}
use Rattle.sieve_delivery.specs.declared.error.ErrorKind.TheVariants.{SecondVacation, ConflictingActions}

abbrev pub is_response : Action → Bool
is_response (Respond response) = true
is_response other = false

abbrev pub is_rejection : Action → Bool
is_rejection (Reject how reason) = true
is_rejection other = false

-- A discard alone goes with a rejection. A store and a redirect, which deliver the message, don't
-- (RFC 5429, 2.4). A response doesn't (RFC 5429, 2.4; RFC 5230, 4.7). Another rejection doesn't
-- (RFC 5429, 2.4).
abbrev pub goes_with_rejections : Action → Bool
goes_with_rejections Discard = true
goes_with_rejections other = false

-- The error of two actions that conflict. Two responses do, since a `vacation` is executed once at
-- most (RFC 5230, 4.7). So do a rejection and an action that doesn't go with one, whichever of the
-- two comes first.
abbrev pub conflict_of : (performed there : Action) → Option ErrorKind
conflict_of performed there =
    if is_response performed && is_response there then Some SecondVacation else
    if is_rejection performed && not (goes_with_rejections there) || is_rejection there && not (goes_with_rejections performed) then Some ConflictingActions else None

-- The error of an action that is performed where some are there. It is that of the first that
-- conflicts with it (RFC 5230, 4.7; RFC 5429, 2.4).
abbrev pub conflict_among : Action → List Action → Option ErrorKind
conflict_among performed [] = None
conflict_among performed (there ∷ actions) = option_or (conflict_of performed there) (conflict_among performed actions)
