use Rattle.std.proofs.Common.{◌≡◌, drop, flat_map}
use Rattle.flag_lists.specs.Flags.{flag_union, flags_in, flags_of_texts}
use Rattle.octets.specs.view.Texts.{octets_of_each}
use Rattle.flag_lists.proofs.flags.flags_of_texts.Given as goal

-- the flags so far, united with those of the texts that are left, are the flags of all texts
abbrev pub invariant-loop-text : goal.invariant-loop-text
invariant-loop-text l =
    flag_union l.flags.keys (flat_map flags_in (octets_of_each (drop l.text-index l.texts)))
    ≡ flags_of_texts (octets_of_each l.texts)
