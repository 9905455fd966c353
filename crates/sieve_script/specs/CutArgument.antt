-- An argument whose strings are cut into parts (RFC 5229, section 3). A command or a test is read
-- by such arguments, beside their labels.
use Rattle.std.specs.Prelude.{ℕ, List, Option}
use Rattle.sieve_variables.specs.Part.{Part}

pub data CutArgument : Type 0 where
  cut_strings : (strings : List (List Part)) → CutArgument
  cut_number : (value : Option ℕ) → CutArgument
  cut_tag : CutArgument
