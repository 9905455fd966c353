-- Stores into mailboxes (RFC 5228, 4.1 and 4.3), with flags (RFC 5232, 3 and 5). Settings of a
-- store are in RFC 5490, 3.2, and RFC 8579, 4.
use Rattle.std.specs.Prelude.{◌==◌, ℕ, List, [], ◌∷◌, length, map, Bool, true, false, not, ◌&&◌, Option, None, Some, nat_eq, nat_lt, nat_le, if◌then◌else◌}
use Rattle.std.specs.List.{list_all}
use Rattle.std.specs.Option.{option_map}
use Rattle.flag_lists.specs.Flags.{is_keyword, flags_of_texts}
use Rattle.sieve_limits.specs.Limits.{mailbox_limit}
use Rattle.octets.specs.Octet.{octet_of}
use Rattle.sieve_script.specs.Reading.{Settings, plain_settings}
use Rattle.sieve_delivery.specs.declared.action.Deed.{Deed}
use Rattle.sieve_delivery.specs.declared.action.Filing.{Filing}
use Rattle.sieve_delivery.specs.declared.action.Action.TheVariants.{Store}
use Rattle.sieve_delivery.specs.declared.error.ErrorKind.TheVariants.{BadMailbox}
use Rattle.sieve_delivery.specs.Delivery.{Delivery}
use Rattle.sieve_delivery.specs.State.{RunState}
use Rattle.sieve_variables.specs.Part.{Part}
use Rattle.sieve_variables.specs.Value.{Values, text_value}
use Rattle.sieve_delivery.specs.Ending.{Ending}
use Rattle.sieve_delivery.specs.Performing.{fails_at, deed_of, performs}

-- whether an octet is not a control character of ASCII
abbrev pub is_no_control : ℕ → Bool
is_no_control b = nat_le (octet_of " ") b && not (nat_eq b 127)

-- A name of a mailbox: one to 255 octets, none of them a control character. RFC 5228, section 4.1,
-- leaves open which names there are.
abbrev pub is_mailbox : List ℕ → Bool
is_mailbox name = nat_lt 0 (length name) && (nat_le (length name) mailbox_limit && list_all is_no_control name)

-- the use of a mailbox: `\` and an atom (RFC 6154, 6)
abbrev pub is_special_use : List ℕ → Bool
is_special_use [] = false
is_special_use (b ∷ text) = b == octet_of "\\" && is_keyword text

-- whether the use that a command names, if any, may be the use of a mailbox
abbrev pub may_be_used : Option (List ℕ) → Bool
may_be_used None = true
may_be_used (Some used) = is_special_use used

-- A store is performed if a mailbox may have that name (RFC 5228, 4.1) and that use. Otherwise the
-- command fails.
abbrev pub files : Delivery → ℕ → (name : List ℕ) → (used : Option (List ℕ)) → Deed → RunState → Ending
files delivery line name used deed state = if is_mailbox name && may_be_used used then performs delivery line deed state else fails_at delivery line BadMailbox state

-- the flags that strings name (RFC 5232, 2)
abbrev pub flags_named : RunState → List (List Part) → List (List ℕ)
flags_named state texts = flags_of_texts (map (text_value state.values) texts)

-- The flags of a store. They are those that are named, or else the internal flags at that time
-- (RFC 5232, 5).
abbrev pub stored_flags : RunState → Option (List (List Part)) → List (List ℕ)
stored_flags state None = state.flags
stored_flags state (Some texts) = flags_named state texts

-- the filing that a command asks for (RFC 5490, 3.2; RFC 8579, 4)
abbrev pub filing_of : Values → Settings → Filing
filing_of values settings = record { create = settings.create; special_use = option_map (text_value values) settings.special_use }

-- a store into a mailbox, with the settings of its command
abbrev pub store_deed : RunState → List ℕ → Settings → Deed
store_deed state mailbox settings = deed_of (Store mailbox (stored_flags state settings.flags) (filing_of state.values settings)) settings.copy

-- keep stores into the delivery's mailbox (RFC 5228, 4.3)
abbrev pub keeps : Delivery → (flags : Option (List (List Part))) → ℕ → RunState → Ending
keeps delivery flags line state = performs delivery line (store_deed state delivery.arrival.envelope.mailbox (record plain_settings { flags = flags })) state

-- fileinto stores into the mailbox that it names (RFC 5228, 4.1)
abbrev pub files_into : Delivery → List Part → Settings → ℕ → RunState → Ending
files_into delivery mailbox settings line state = files delivery line (text_value state.values mailbox) (filing_of state.values settings).special_use (store_deed state (text_value state.values mailbox) settings) state
