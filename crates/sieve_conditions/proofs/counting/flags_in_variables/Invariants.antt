use Rattle.std.proofs.Common.{◌≡◌, ◌+◌, drop, length, map}
use Rattle.std.specs.List.{flat_map}
use Rattle.flag_lists.specs.Flags.{flag_list}
use Rattle.sieve_variables.specs.Value.{text_value}
use Rattle.sieve_conditions.proofs.counting.flags_in_variables.Given as goal

-- the flags that are counted and those of the variables that are left are all
abbrev pub invariant-loop-i : goal.invariant-loop-i
invariant-loop-i l =
    let texts = map (text_value l.values) l.variables in
    l.count + length (flat_map flag_list (drop l.i texts)) ≡ length (flat_map flag_list texts)
