use Rattle.octets.specs.Octet.{is_filled}
use Rattle.std.proofs.Common.{◌≡◌, ◌++◌, filter, length}
use Rattle.flag_lists.specs.Flags.{flag_keys, pieces}
use Rattle.octets.specs.view.Texts.{octets_of_each}
use Rattle.flag_lists.proofs.sought_flags.push_keys.Given as goal

-- The texts so far and the pieces of the rest that have octets are, in order, all texts. These are
-- the texts before, and after them those that the key stands for.
abbrev pub invariant-pieces : goal.invariant-pieces
invariant-pieces l = octets_of_each l.found.items ++ filter is_filled (pieces l.rest) ≡ octets_of_each l.initial.found.items ++ flag_keys l.key

abbrev pub decreases-pieces : goal.decreases-pieces
decreases-pieces l = length l.rest
