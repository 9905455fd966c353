-- Actions of which no two are one (RFC 5228, 2.10.3).
use Rattle.std.specs.Prelude.{List}
use Rattle.std.specs.List.{IsDistinct}
use Rattle.sieve_delivery.specs.declared.action.Action.{Action}
use Rattle.sieve_delivery.specs.Joining.{same_action}

-- no action is one with an action after it
abbrev pub AreDistinctActions : List Action → Type 0
AreDistinctActions actions = IsDistinct same_action actions
