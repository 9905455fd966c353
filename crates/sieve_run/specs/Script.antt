-- A script that is kept: its text, and the profile under which the text is read and checked.
use Rattle.std.specs.Prelude.{ℕ, List}
use Rattle.sieve_profile.specs.Profile.{Profile}

pub record ScriptState : Type 0 where
  pub profile : Profile
  pub text : List ℕ
