-- The program's scope, under a name that no type of the program has.
use Rattle.sieve_check.specs.Scope.{Scope}

abbrev pub ScopeState : Type 0
ScopeState = Scope
