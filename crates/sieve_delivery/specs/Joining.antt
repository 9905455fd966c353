-- Actions that are one (RFC 5228, 2.10.3), and how the later joins the one that is there.
use Rattle.std.specs.Prelude.{Bool, true, false, ◌||◌, nat_eq, if◌then◌else◌}
use Rattle.std.specs.Option.{option_or}
use lib.Pointwise.{pointwise}
use Rattle.flag_lists.specs.Flags.{flag_union}
use Rattle.sieve_delivery.specs.declared.action.Action.{Action}
use Rattle.sieve_delivery.specs.declared.action.Filing.{Filing}
use Rattle.sieve_delivery.specs.declared.action.Action.TheVariants.{Store, Redirect, Discard, Respond, Reject}
use Rattle.sieve_delivery.specs.State.{Entered}

-- Whether two actions are one. Stores into one mailbox are (RFC 5228, 2.10.3). Redirects to one
-- address, octet for octet, are, and so are discards. Two responses are one too, and so are two
-- rejections. But they never join, since they conflict.
abbrev pub same_action : Action → Action → Bool
same_action (Store mailbox flags filing) (Store other there kept) = pointwise nat_eq mailbox other
same_action (Redirect address) (Redirect other) = pointwise nat_eq address other
same_action Discard Discard = true
same_action (Respond response) (Respond other) = true
same_action (Reject how reason) (Reject other why) = true
same_action action other = false

-- The filing of a store, joined with that of another store into its mailbox. The mailbox is made if
-- either asks for it (RFC 5490, 3.2). The first use that is named stands (RFC 8579, 4).
abbrev pub filing_with : Filing → Filing → Filing
filing_with brought there = record { create = there.create || brought.create; special_use = option_or there.special_use brought.special_use }

-- A second store into a mailbox brings its flags and its filing to the first. Other actions bring
-- nothing. RFC 5232, section 5, lets the last list of flags stand in place of the union.
abbrev pub brought_by : Action → Action → Action
brought_by (Store mailbox flags filing) (Store other there kept) = Store other (flag_union there flags) (filing_with filing kept)
brought_by action other = other

-- an action that is there, joined with one that is performed if the two are one
abbrev pub joined_with : Action → Action → Action
joined_with action there = if same_action action there then brought_by action there else there

-- The same for an entry. Its command stays the one that entered it first.
abbrev pub joined_entry : Action → Entered → Entered
joined_entry action there = record there { action = joined_with action there.action }
