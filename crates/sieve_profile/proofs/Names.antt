-- Each extension is found by its name.
use Rattle.std.proofs.Common.{◌≡◌, Bool, true, false, Option, None, Some, refl, ap}
use denote.Enum.Bare.{same_true}
use Rattle.sieve_profile.specs.Extension.{extension_name, extension_named, same_extension}
use Rattle.sieve_profile.specs.contracts.extension.Extension.{enum, the_type}
use Rattle.sieve_profile.specs.declared.extension.Extension.{Extension}
use Rattle.sieve_profile.proofs.Each.{of_each}

abbrev is_found : Extension → Option Extension → Bool
is_found x None = false
is_found x (Some y) = same_extension y x

found : (x : Extension) (o : Option Extension) → is_found x o ≡ true → o ≡ Some x
found x None is = absurd (never is)
  where
    never : false ≡ true → ⊥
    never e = cc
found x (Some y) is = ap Some (same_true the_type tt y x is)

pub extension_found : (extension : Extension) → extension_named (extension_name extension) ≡ Some extension
extension_found extension = found extension (extension_named (extension_name extension)) (of_each enum tt (λ e. is_found e (extension_named (extension_name e))) refl extension)
