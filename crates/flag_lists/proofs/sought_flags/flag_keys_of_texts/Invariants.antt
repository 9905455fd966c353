use Rattle.std.proofs.Common.{◌≡◌, ◌++◌, drop, flat_map}
use Rattle.flag_lists.specs.Flags.{flag_keys, flag_keys_of_texts}
use Rattle.octets.specs.view.Texts.{octets_of_each}
use Rattle.flag_lists.proofs.sought_flags.flag_keys_of_texts.Given as goal

-- the texts so far, and after them those of the keys that are left, are the texts of all keys
abbrev pub invariant-loop-key : goal.invariant-loop-key
invariant-loop-key l =
    octets_of_each l.found.items ++ flat_map flag_keys (octets_of_each (drop l.key-index l.keys))
    ≡ flag_keys_of_texts (octets_of_each l.keys)
