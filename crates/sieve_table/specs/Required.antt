-- The set of capabilities that a script requires. Commands, tests, tags and arguments may need one
-- (RFC 5228, 2.10.5).
use Rattle.std.specs.Prelude.{ℕ, Bool, false, ◌||◌, List}
use Rattle.sieve_table.specs.Capability.{is_always_there, is_name_of}
use Rattle.sieve_table.specs.declared.capability.Capability.{Capability}

abbrev pub Required : Type 0
Required = Capability → Bool

abbrev pub nothing_required : Required
nothing_required = λ capability. false

-- whether a capability is required, or need not be
abbrev pub is_required : Required → Capability → Bool
is_required required capability = required capability || is_always_there capability

-- the set with the capability that a string of a `require` names (RFC 5228, 3.2)
abbrev pub requiring : Required → List ℕ → Required
requiring required name = λ capability. required capability || is_name_of name capability
