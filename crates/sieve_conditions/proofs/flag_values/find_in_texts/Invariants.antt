use Rattle.std.proofs.Common.{◌≡◌, drop}
use Rattle.flag_lists.specs.Flags.{flag_list}
use Rattle.sieve_conditions.specs.Matching.{first_some}
use Rattle.sieve_conditions.specs.view.FieldTests.{found_with}
use Rattle.octets.specs.view.Texts.{octets_of_each}
use Rattle.sieve_conditions.proofs.flag_values.find_in_texts.Given as goal

-- the texts that are left give the match values of all
abbrev pub invariant-loop-text : goal.invariant-loop-text
invariant-loop-text l = first_some (λ text. first_some (found_with l.matcher) (flag_list text)) (octets_of_each (drop l.text-index l.texts)) ≡ first_some (λ text. first_some (found_with l.matcher) (flag_list text)) (octets_of_each l.texts)
