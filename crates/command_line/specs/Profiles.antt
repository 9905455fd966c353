-- The profile that the words of a command line name.
use Rattle.std.specs.Prelude.{◌≡◌, ◌==◌, List, [], ◌∷◌, Option, Some, None, Result, Ok, Err, codes, flat_map, unwrap_or}
use Prim.Native.Char.{code}
use Rattle.std.specs.Borrow.{Bor}
use Rattle.std.specs.List.{slice_split}
use Rattle.clap.specs.Walk.{Row, Text, all_of}
use Rattle.sieve_profile.specs.Profile.{Profile, empty_profile, with_named}
use Rattle.sieve_profile.specs.declared.profile.Profile as profiles
use Rattle.sieve_profile.specs.view.Profile.{profile_as}

-- the parts of a word between its commas
abbrev pub parts_of : Text → List Text
parts_of word = slice_split (λ c. c == code ",") word

-- the names that the words of all `--with` give, in their order
abbrev pub names_in : List Text → List Text
names_in words = flat_map parts_of words

-- the result with a profile, or the name where it asks for nothing
abbrev pub where_known : Text → Option Profile → (Profile → Result Profile Text) → Result Profile Text
where_known name None known = Err name
where_known name (Some profile) known = known profile

-- a profile with the extensions that these names ask for, or the first name that asks for none
abbrev pub with_names : Profile → List Text → Result Profile Text
with_names profile [] = Ok profile
with_names profile (name ∷ names) = where_known name (with_named profile name) (λ more. with_names more names)

-- the profile that a subcommand's matches name, or the first name that asks for no extension
abbrev pub profile_in : List Row → Result Profile Text
profile_in rows = with_names empty_profile (names_in (unwrap_or (all_of (codes "with") rows) []))

-- the program's answer is that profile, or that name
abbrev pub Says : Result Profile Text → Result profiles.Profile (Bor Text) → Type 0
Says said (Ok profile) = said ≡ Ok (profile_as profile)
Says said (Err name) = said ≡ Err name.now
