use Rattle.std.proofs.Common.{◌≡◌, ◌+◌, ◌≤◌, length}
use Rattle.sieve_delivery.specs.Delivery.{mailbox_count}
use Rattle.sieve_conditions.proofs.mailboxes.mailbox_count.Given as goal

-- The names that are counted and those that are left are all. At most as many are counted as octets
-- are read.
abbrev pub invariant-loop-name : goal.invariant-loop-name
invariant-loop-name l = (l.count + mailbox_count l.left ≡ mailbox_count l.text) × (l.count + length l.left ≤ length l.text)

abbrev pub decreases-loop-name : goal.decreases-loop-name
decreases-loop-name l = length l.left
