use Rattle.std.proofs.Common.{◌≡◌, drop, map}
use Rattle.std.specs.List.{flat_map, list_any}
use Rattle.flag_lists.specs.Flags.{has_key}
use Rattle.match_text.specs.Order.{are_equal}
use Rattle.sieve_variables.specs.Value.{text_value}
use Rattle.sieve_conditions.specs.view.FieldTests.{cut_key, key_texts}
use Rattle.sieve_conditions.proofs.flag_values.has_some.Given as goal

-- one of the keys that are left is among the flags exactly if one of all is
abbrev pub invariant-loop-i : goal.invariant-loop-i
invariant-loop-i l =
    let among = list_any (has_key (are_equal l.matcher.comparison.collation) l.flags) in
    among (flat_map (cut_key l.matcher.are_cut) (drop l.i (map (text_value l.matcher.values.now) l.matcher.keys.now))) ≡ among (key_texts l.matcher)
