-- The breach that a refusal of the validator reports.
use Rattle.std.specs.Prelude.{◌≡◌, ⊤, List, Some, slice_get}
use Rattle.sieve_check.specs.Breach.{Breach}
use Rattle.sieve_check.specs.declared.validator.CheckFault.{CheckFault}
use Rattle.sieve_check.specs.declared.validator.CheckFault.TheVariants as faults

-- a fault is the first of the breaches, unless memory ran out
abbrev pub IsFirst : List Breach → CheckFault → Type 0
IsFirst breaches (faults.Breach line rule) = slice_get breaches 0 ≡ Some (record { line = line; rule = rule })
IsFirst breaches faults.NoMemory = ⊤
