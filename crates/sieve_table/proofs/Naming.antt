-- The capabilities that are required after a string of a `require`.
use Rattle.std.proofs.Common.{◌≡◌, ℕ, Bool, true, false, ◌||◌, List, refl}
use Rattle.sieve_table.specs.Capability.{is_always_there, is_name_of}
use Rattle.sieve_table.specs.Required.{Required, is_required, requiring}
use Rattle.sieve_table.specs.declared.capability.Capability.{Capability}

turned : (a b c : Bool) → ((a || b) || c) ≡ ((a || c) || b)
turned true b c = refl
turned false true true = refl
turned false true false = refl
turned false false true = refl
turned false false false = refl

pub named_is_required : (required : Required) (name : List ℕ) (capability : Capability) → is_required (requiring required name) capability ≡ (is_required required capability || is_name_of name capability)
named_is_required required name capability = turned (required capability) (is_name_of name capability) (is_always_there capability)
