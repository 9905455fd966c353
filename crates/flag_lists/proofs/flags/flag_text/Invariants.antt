use Rattle.std.proofs.Common.{◌≡◌, ◌∷◌, ◌++◌, drop, flat_map}
use Rattle.octets.specs.Octet.{octet_of}
use Rattle.flag_lists.specs.Flags.{flag_text}
use Rattle.flag_lists.proofs.flags.flag_text.Given as goal

-- the text so far, with a space and the flag for each flag left, is the list's text
abbrev pub invariant-loop-flag : goal.invariant-loop-flag
invariant-loop-flag l = l.text.items ++ flat_map (λ next. octet_of " " ∷ next) (drop l.flag-index l.rest) ≡ flag_text l.list
