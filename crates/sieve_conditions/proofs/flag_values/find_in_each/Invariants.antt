use Rattle.std.proofs.Common.{◌≡◌, drop, map}
use Rattle.std.specs.List.{flat_map}
use Rattle.sieve_variables.specs.Value.{text_value}
use Rattle.sieve_conditions.specs.Matching.{first_some}
use Rattle.sieve_conditions.specs.view.FieldTests.{cut_key, found_with}
use Rattle.sieve_conditions.specs.view.FlagTests.{best_of}
use Rattle.sieve_conditions.proofs.flag_values.find_in_each.Given as goal

-- the best with the keys that are left is the match of the flags
abbrev pub invariant-loop-i : goal.invariant-loop-i
invariant-loop-i l =
    best_of l.matcher.comparison l.flags l.best (flat_map (cut_key l.matcher.are_cut) (drop l.i (map (text_value l.matcher.values.now) l.matcher.keys.now)))
    ≡ first_some (found_with l.matcher) l.flags
