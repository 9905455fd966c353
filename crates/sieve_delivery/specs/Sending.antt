-- Redirects (RFC 5228, 4.2), responses (RFC 5230, 4) and rejections (RFC 5429, 2).
use Rattle.std.specs.Prelude.{ℕ, List, [], ◌∷◌, map, Bool, true, false, ◌&&◌, Option, None, Some, is_some, if◌then◌else◌}
use Rattle.std.specs.Option.{option_map}
use Rattle.message_text.specs.Addresses.{AddrSpec, addresses_of}
use Rattle.sieve_script.specs.Reading.{Vacation}
use Rattle.sieve_script.specs.declared.reading.Rejection.{Rejection}
use Rattle.sieve_delivery.specs.declared.response.Response.{Response}
use Rattle.sieve_delivery.specs.declared.action.Action.TheVariants.{Redirect, Respond, Reject}
use Rattle.sieve_delivery.specs.declared.error.ErrorKind.TheVariants.{BadAddress}
use Rattle.sieve_delivery.specs.Delivery.{Delivery}
use Rattle.sieve_delivery.specs.State.{RunState}
use Rattle.sieve_variables.specs.Part.{Part}
use Rattle.sieve_variables.specs.Value.{Values, text_value}
use Rattle.sieve_delivery.specs.Ending.{Ending}
use Rattle.sieve_delivery.specs.Performing.{fails_at, deed_of, performs}

-- the whole address, if it has a local part and a domain (RFC 5228, 2.4.2.3)
abbrev pub whole_address : AddrSpec → Option (List ℕ)
whole_address address = if is_some address.local_part && is_some address.domain then Some address.all else None

abbrev pub only_address : List AddrSpec → Option (List ℕ)
only_address [] = None
only_address (one ∷ []) = whole_address one
only_address (one ∷ two ∷ more) = None

-- A redirect is performed if there is an address (RFC 5228, 4.2). Otherwise the command fails.
abbrev pub redirects : Delivery → ℕ → Option (List ℕ) → (copy : Bool) → RunState → Ending
redirects delivery line None copy state = fails_at delivery line BadAddress state
redirects delivery line (Some address) copy state = performs delivery line (deed_of (Redirect address) copy) state

-- redirect sends the message on to an address (RFC 5228, 4.2)
abbrev pub sends : Delivery → List Part → (copy : Bool) → ℕ → RunState → Ending
sends delivery address copy line state = redirects delivery line (only_address (addresses_of (text_value state.values address))) copy state

-- the response of a `vacation`, with the octets that its strings stand for (RFC 5230, 4)
abbrev pub response_of : Values → Vacation → Response
response_of values vacation = record {
  reason = text_value values vacation.reason;
  days = vacation.days;
  subject = option_map (text_value values) vacation.subject;
  from = option_map (text_value values) vacation.from;
  addresses = option_map (map (text_value values)) vacation.addresses;
  mime = vacation.mime;
  handle = option_map (text_value values) vacation.handle;
}

-- Whether a response may be from the sender that it says. That must be exactly one address, with a
-- local part and a domain. A response that says none may be sent. RFC 5230, section 4.3, lets there
-- be several.
abbrev pub may_be_from : Option (List ℕ) → Bool
may_be_from None = true
may_be_from (Some from) = is_some (only_address (addresses_of from))

-- A response is performed if it may be from the sender that it says. Otherwise the command fails.
abbrev pub answers : Delivery → ℕ → Response → RunState → Ending
answers delivery line response state =
    if may_be_from response.from then performs delivery line (record { action = Respond response; leaves_keep = true }) state else fails_at delivery line BadAddress state

-- vacation answers the sender (RFC 5230, 4)
abbrev pub responds : Delivery → Vacation → ℕ → RunState → Ending
responds delivery vacation line state = answers delivery line (response_of state.values vacation) state

-- reject and ereject refuse the message, for a reason (RFC 5429, 2)
abbrev pub rejects : Delivery → Rejection → List Part → ℕ → RunState → Ending
rejects delivery how reason line state = performs delivery line (record { action = Reject how (text_value state.values reason); leaves_keep = false }) state
