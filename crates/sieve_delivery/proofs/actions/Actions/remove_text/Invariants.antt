use Rattle.std.proofs.Common.{◌≡◌, length}
use Rattle.flag_lists.specs.Flags.{flags_in, flags_without}
use Rattle.sieve_delivery.proofs.actions.Actions.remove_text.Given as goal

-- The internal flags without those of the rest of the text stay the same. They are the flags at the
-- start without those of the whole text. The actions stay.
abbrev pub invariant-loop-flag : goal.invariant-loop-flag
invariant-loop-flag l = record l.self { flags = flags_without l.self.flags (flags_in l.rest) } ≡ record l.initial.self { flags = flags_without l.initial.self.flags (flags_in l.text) }

abbrev pub decreases-loop-flag : goal.decreases-loop-flag
decreases-loop-flag l = length l.rest
