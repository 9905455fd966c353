-- Mailboxes that strings name.
use Rattle.std.specs.Prelude.{ℕ, List, Option, Some, None, if◌then◌else◌}
use Rattle.sieve_delivery.specs.Storing.{is_mailbox}
use Rattle.sieve_variables.specs.Part.{Part}
use Rattle.sieve_variables.specs.Value.{Values, text_value}

-- the mailbox that a string names, or none if no mailbox may have that name
abbrev pub mailbox_named : Values → List Part → Option (List ℕ)
mailbox_named values mailbox = if is_mailbox (text_value values mailbox) then Some (text_value values mailbox) else None
