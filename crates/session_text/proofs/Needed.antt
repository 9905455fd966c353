-- A command that needs an extension is known where the profile has it.
use Rattle.std.proofs.Common.{◌≡◌, ◌∙◌, ℕ, Bool, true, false, cond, List, Option, None, Some, IfSome, option_map, unwrap_or, refl, sym, ap}
use Rattle.std.proofs.lemmas.Bool.{false≢true}
use Rattle.std.specs.Option.{option_and_then}
use Rattle.sieve_profile.specs.Profile.{Profile, empty_profile, has}
use Rattle.sieve_profile.specs.declared.extension.Extension.{Extension}
use Rattle.sieve_profile.proofs.Sets.{empty_has_none}
use Rattle.session_text.specs.SessionLine.{SessionCommand, command_in, command_of_line, extension_of, is_there, where_there}

name_had : (profile : Profile) (name : Option Extension) → unwrap_or (option_map (has profile) name) true ≡ true → IfSome name (λ n. has profile n ≡ true)
name_had profile None is = tt
name_had profile (Some name) is = is

no_name : (name : Option Extension) → unwrap_or (option_map (has empty_profile) name) true ≡ true → name ≡ None
no_name None is = refl
no_name (Some name) is = absurd (false≢true (sym (empty_has_none name) ∙ is))

where_passed : (b : Bool) (command : SessionCommand) (P : SessionCommand → Type 0) → (b ≡ true → P command) → IfSome (cond b (Some command) None) P
where_passed true command P holds = holds refl
where_passed false command P holds = tt

passed : (b : Bool) (found command : SessionCommand) → cond b (Some found) None ≡ Some command → (b ≡ true) × (found ≡ command)
passed true found command is = (refl, cc)
passed false found command is = absurd (cc)

named_in : (profile : Profile) (found : Option SessionCommand)
    → IfSome (option_and_then (where_there profile) found) (λ command. IfSome (extension_of command) (λ name. has profile name ≡ true))
named_in profile None = tt
named_in profile (Some command) = where_passed (is_there profile command) command _ (name_had profile (extension_of command))

nameless_in : (profile other : Profile) (found : Option SessionCommand) (command : SessionCommand) → extension_of command ≡ None
    → option_and_then (where_there profile) found ≡ Some command → option_and_then (where_there other) found ≡ Some command
nameless_in profile other None command none is = absurd (cc)
nameless_in profile other (Some found) command none is =
    ap (where_there other) (passed (is_there profile found) found command is).1
    ∙ ap (λ (name : Option Extension). cond (unwrap_or (option_map (has other) name) true) (Some command) None) none

empty_in : (profile : Profile) (found : Option SessionCommand) (command : SessionCommand)
    → option_and_then (where_there empty_profile) found ≡ Some command → option_and_then (where_there profile) found ≡ Some command
empty_in profile None command is = absurd (cc)
empty_in profile (Some found) command is =
    let both = passed (is_there empty_profile found) found command is in
    nameless_in empty_profile profile (Some found) command
    (no_name (extension_of command) (ap (is_there empty_profile) (sym both.1) ∙ both.0)) is

pub named : (profile : Profile) (line : List ℕ) → IfSome (command_of_line profile line) (λ command. IfSome (extension_of command) (λ name. has profile name ≡ true))
unfolding command_of_line
named profile line = named_in profile (command_in line)

pub nameless : (profile other : Profile) (line : List ℕ) (command : SessionCommand) → extension_of command ≡ None
    → command_of_line profile line ≡ Some command → command_of_line other line ≡ Some command
unfolding command_of_line
nameless profile other line = nameless_in profile other (command_in line)

pub empty : (profile : Profile) (line : List ℕ) (command : SessionCommand)
    → command_of_line empty_profile line ≡ Some command → command_of_line profile line ≡ Some command
unfolding command_of_line
empty profile line = empty_in profile (command_in line)
