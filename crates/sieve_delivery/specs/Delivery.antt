-- The facts of a delivery that tests and commands use.
use Rattle.std.specs.Prelude.{ℕ, List, [], ◌∷◌, ◌++◌, Option, None, Some, filter, length}
use Rattle.std.specs.Str.Lines.{lines}
use Rattle.octets.specs.Octet.{is_filled}
use Rattle.sieve_delivery.specs.declared.envelope.Addresses.{Addresses}
use Rattle.sieve_delivery.specs.declared.envelope.Envelope.{Envelope}
use Rattle.script_names.specs.declared.name.ScriptName.{ScriptName}
use Rattle.sieve_profile.specs.Profile.{Profile}

-- a message that arrives, with the settings that it is judged by
pub record Arrival : Type 0 where
  -- the message's octets
  pub message : List ℕ
  -- sender, recipient, the mailbox that `keep` stores into (RFC 5228, 4.3 and 5.4), the other
  -- mailboxes, and the time
  pub envelope : Envelope
  -- the sender and the recipient of this message alone, if it has its own
  pub own : Option Addresses
  -- the extensions that are known beside those that always are
  pub profile : Profile

pub record Delivery : Type 0 where
  pub arrival : Arrival
  -- the script that runs
  pub script : ScriptName
  -- The scripts that include it, from the main script on. Each includes the next (RFC 6609, 3.2).
  pub including : List ScriptName

-- THE ADDRESSES OF A MESSAGE

-- the sender and the recipient: the message's own if it has any, or else the envelope's
abbrev pub sender_of : Option Addresses → Envelope → List ℕ
sender_of None envelope = envelope.from
sender_of (Some own) envelope = own.from

abbrev pub recipient_of : Option Addresses → Envelope → List ℕ
recipient_of None envelope = envelope.to
recipient_of (Some own) envelope = own.to

-- the envelope with these addresses; the rest of it stays
abbrev pub addressed : Option Addresses → Envelope → Envelope
addressed own envelope = record { from = sender_of own envelope; to = recipient_of own envelope; mailbox = envelope.mailbox; mailboxes = envelope.mailboxes; clock = envelope.clock }

-- the envelope by which a message is judged
abbrev pub envelope_of : Arrival → Envelope
envelope_of arrival = addressed arrival.own arrival.envelope

-- MAILBOXES

-- The names of mailboxes in a text. A line is a name, and an empty line is none.
abbrev pub mailbox_names : List ℕ → List (List ℕ)
mailbox_names text = filter is_filled (lines text)

abbrev pub mailbox_count : List ℕ → ℕ
mailbox_count text = length (mailbox_names text)

-- INCLUDED SCRIPTS

-- the delivery in a script that the running one includes
abbrev pub inside : ScriptName → Delivery → Delivery
inside name delivery = record delivery { script = name; including = delivery.including ++ delivery.script ∷ [] }
