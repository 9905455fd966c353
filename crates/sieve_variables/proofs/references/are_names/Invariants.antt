use Rattle.std.proofs.Common.{◌≡◌, length}
use Rattle.std.specs.List.{list_all}
use Rattle.sieve_variables.specs.Reference.{is_name}
use Rattle.sieve_variables.specs.Scan.{words_of}
use Rattle.sieve_variables.proofs.references.are_names.Given as goal

-- all words are names if, and only if, the rest of them are
abbrev pub invariant-loop-word : goal.invariant-loop-word
invariant-loop-word l = list_all is_name (words_of l.left) ≡ list_all is_name (words_of l.inside)

abbrev pub decreases-loop-word : goal.decreases-loop-word
decreases-loop-word l = length l.left
