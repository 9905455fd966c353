use Rattle.std.proofs.Common.{◌≡◌, ◌++◌, drop, map}
use Rattle.sieve_variables.specs.Value.{text_value}
use Rattle.octets.specs.view.Texts.{octets_of_each}
use Rattle.packed_strings.proofs.strings.Strings.expanded.Given as goal

-- the values so far, and then those of the strings that are left, are the values of all strings
abbrev pub invariant-loop-i : goal.invariant-loop-i
invariant-loop-i l = octets_of_each l.texts.items ++ map (text_value l.values) (drop l.i l.self) ≡ map (text_value l.values) l.self
