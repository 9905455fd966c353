use Rattle.std.proofs.Common.{◌≡◌, drop, map}
use Rattle.sieve_conditions.specs.Matching.{first_some}
use Rattle.sieve_conditions.specs.view.FieldTests.{found_with}
use Rattle.sieve_variables.specs.Value.{text_value}
use Rattle.sieve_conditions.proofs.string_values.find_in_texts.Given as goal

-- the strings that are left give the match values of all
abbrev pub invariant-loop-i : goal.invariant-loop-i
invariant-loop-i l =
    let find = found_with l.matcher in
    first_some find (drop l.i (map (text_value l.values) l.texts)) ≡ first_some find (map (text_value l.values) l.texts)
