-- Profiles: sets of extensions.
use Rattle.std.specs.Prelude.{ℕ, Bool, false, ◌||◌, List, [], ◌∷◌, map, slice_index_or, Option, Some, None, if◌then◌else◌}
use Rattle.std.specs.List.{list_any}
use denote.Enum.Declared.{tag_of}
use Rattle.sieve_profile.specs.Extension.{asked_by, asks_for, extensions, same_extension}
use Rattle.sieve_profile.specs.contracts.extension.Extension.{the_type}
use Rattle.sieve_profile.specs.declared.extension.Extension.{Extension}
use Rattle.sieve_profile.specs.declared.profile.Profile as profiles

-- whether each extension is in the profile, in their order
abbrev pub Profile : Type 0
Profile = profiles.Profile

abbrev pub has : Profile → Extension → Bool
has profile extension = slice_index_or profile.asked (tag_of the_type extension) false

-- the profile of the extensions that pass a test
abbrev pub profile_of : (Extension → Bool) → Profile
profile_of is_in = record { asked = map is_in extensions }

abbrev pub empty_profile : Profile
empty_profile = profile_of (λ extension. false)

abbrev pub with_extension : Profile → Extension → Profile
with_extension profile extension = profile_of (λ other. has profile other || same_extension extension other)

abbrev pub with_each : Profile → List Extension → Profile
with_each profile [] = profile
with_each profile (extension ∷ extensions) = with_each (with_extension profile extension) extensions

-- a profile with all that a name asks for; none where it asks for nothing
abbrev pub with_named : Profile → List ℕ → Option Profile
with_named profile name = if list_any (asks_for name) extensions then Some (with_each profile (asked_by name)) else None
