use Rattle.std.proofs.Common.{◌≡◌, length, nat_eq}
use Rattle.std.specs.List.{list_any}
use lib.Pointwise.{pointwise}
use Rattle.sieve_delivery.specs.Delivery.{mailbox_names}
use Rattle.sieve_conditions.proofs.mailboxes.is_listed.Given as goal

-- the name is among those that are left exactly if it is among all
abbrev pub invariant-loop-line : goal.invariant-loop-line
invariant-loop-line l = list_any (pointwise nat_eq l.name) (mailbox_names l.left) ≡ list_any (pointwise nat_eq l.name) (mailbox_names l.text)

abbrev pub decreases-loop-line : goal.decreases-loop-line
decreases-loop-line l = length l.left
