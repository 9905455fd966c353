-- The match values that flags give by keys that come one after another.
use Rattle.std.specs.Prelude.{ℕ, List, Option, take}
use Rattle.std.specs.Option.{option_or}
use Rattle.sieve_script.specs.declared.reading.Comparison.{Comparison}
use Rattle.sieve_conditions.specs.Matching.{first_match, first_some, pairs_with}
use Rattle.sieve_conditions.specs.declared.flag_values.Best.{Best}

-- the match values of the first flag that matches one of these keys
abbrev pub flags_found : Comparison → (flags keys : List (List ℕ)) → Option (List (List ℕ))
flags_found comparison flags keys = first_some (λ flag. first_match comparison (pairs_with keys flag)) flags

-- the match values of the flags, if the best so far is known and these keys are left
abbrev pub best_of : Comparison → (flags : List (List ℕ)) → Best → (keys : List (List ℕ)) → Option (List (List ℕ))
best_of comparison flags best keys = option_or (flags_found comparison (take best.before flags) keys) best.found
