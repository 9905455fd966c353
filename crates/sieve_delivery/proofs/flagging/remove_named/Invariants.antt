use Rattle.std.proofs.Common.{◌≡◌, drop, map}
use Rattle.flag_lists.specs.Flags.{flags_without, flags_of_texts}
use Rattle.sieve_variables.specs.Value.{text_value}
use Rattle.sieve_delivery.proofs.flagging.remove_named.Given as goal

-- The internal flags without those of the strings that are left stay the same. They are the flags
-- at the start without those of all strings. The actions stay.
abbrev pub invariant-loop-i : goal.invariant-loop-i
invariant-loop-i l =
    record l.actions { flags = flags_without l.actions.flags (flags_of_texts (drop l.i (map (text_value l.values) l.texts))) }
    ≡ record l.initial.actions { flags = flags_without l.initial.actions.flags (flags_of_texts (map (text_value l.values) l.texts)) }
