-- Each part is found by its name.
use Rattle.std.proofs.Common.{◌≡◌, Bool, true, false, Option, None, Some, refl, ap}
use denote.Enum.Bare.{same_true, sameb}
use Rattle.sieve_profile.proofs.Each.{of_each}
use Rattle.date_text.specs.Part.{part_name, part_named}
use Rattle.date_text.specs.contracts.part.DatePart.{enum, the_type}
use Rattle.date_text.specs.declared.part.DatePart.{DatePart}

abbrev is_found : DatePart → Option DatePart → Bool
is_found part None = false
is_found part (Some other) = sameb the_type other part

found : (part : DatePart) (o : Option DatePart) → is_found part o ≡ true → o ≡ Some part
found part None is = absurd (never is)
  where
    never : false ≡ true → ⊥
    never e = cc
found part (Some other) is = ap Some (same_true the_type tt other part is)

pub part_found : (part : DatePart) → part_named (part_name part) ≡ Some part
part_found part = found part (part_named (part_name part)) (of_each enum tt (λ other. is_found other (part_named (part_name other))) refl part)
