use Rattle.std.proofs.Common.{◌≡◌, ◌++◌, length}
use Rattle.std.specs.Option.{option_map}
use Rattle.session_text.specs.SessionLine.{quoted_value}
use Rattle.session_text.proofs.word.copied_quoted.Given as goal

-- the word stands for the octets so far and then those that the rest stands for
abbrev pub invariant-loop-octets : goal.invariant-loop-octets
invariant-loop-octets l = quoted_value l.word ≡ option_map (λ more. l.octets.items ++ more) (quoted_value l.rest)

abbrev pub decreases-loop-octets : goal.decreases-loop-octets
decreases-loop-octets l = length l.rest
