use Rattle.std.proofs.Common.{◌≡◌, ◌++◌, length, drop}
use Rattle.std.specs.List.{filter_map, slice_split}
use Rattle.message_text.specs.Addresses.{address_in, addresses_of, marks_of, separates}
use Rattle.message_text.proofs.addressing.addresses.Given as goal

-- the addresses so far and those of the pieces left are those of the value
abbrev pub invariant-loop-piece : goal.invariant-loop-piece
invariant-loop-piece l =
    l.found.items ++ filter_map address_in (drop (length l.yielded) (slice_split separates (marks_of l.value))) ≡ addresses_of l.value
