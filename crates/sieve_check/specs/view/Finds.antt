-- The result of a search for breaches.
use Rattle.std.specs.Prelude.{◌≡◌, List, [], Result, Ok, Err}
use Rattle.sieve_check.specs.Breach.{Breach, breaches_in}
use Rattle.sieve_check.specs.CheckFault.{IsFirst}
use Rattle.sieve_check.specs.Element.{Element}
use Rattle.sieve_check.specs.declared.validator.CheckFault.{CheckFault}

-- there are no breaches, or the fault is the first of them, unless memory ran out
abbrev pub Finds : {A : Type 0} → List Breach → Result A CheckFault → Type 0
Finds breaches (Ok answer) = breaches ≡ []
Finds breaches (Err fault) = IsFirst breaches fault

-- the same as `Finds`, of the breaches of elements in turn
abbrev pub FindsIn : {A : Type 0} → List Element → Result A CheckFault → Type 0
FindsIn elements answer = Finds (breaches_in elements) answer
