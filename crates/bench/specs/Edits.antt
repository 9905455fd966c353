-- Edits in turn, and the facts of each content that they make of a new bench's. The edits that make
-- a content anew.
use Rattle.std.specs.Prelude.{ℕ, ◌≤◌, List, [], ◌∷◌, ◌++◌, length, map, IfSome, Result, Ok, Err, nat_eq}
use Rattle.std.specs.List.{All, IsDistinct, flat_map}
use Rattle.std.specs.List.Sorted.{IsStrictlySortedBy}
use Rattle.std.specs.Map.{keys_of, values_of}
use lib.Pointwise.{pointwise}
use Rattle.sieve_limits.specs.Limits.{address_limit, expected_limit, id_limit, mailbox_limit, mailboxes_limit, message_count_limit, message_limit, name_limit, script_count_limit, text_limit}
use Rattle.script_names.specs.Name.{name_cmp}
use Rattle.sieve_delivery.specs.declared.envelope.Addresses.{Addresses}
use Rattle.sieve_delivery.specs.declared.envelope.Envelope.{Envelope}
use Rattle.script_names.specs.declared.name.ScriptName.{ScriptName}
use Rattle.bench.specs.Content.{Content, Edit, Sample, after, put_script, put_message, set_for_all, set_for_one}
use Rattle.bench.specs.declared.fault.EditFault.{EditFault}
use Rattle.bench.specs.declared.setting.MessageSetting.TheVariants as own
use Rattle.bench.specs.declared.setting.Setting.TheVariants as common

-- EDITS IN TURN

-- the content after an edit that made this of it: a refused edit leaves it as it was
abbrev pub made_or_old : Content → Result Content EditFault → Content
made_or_old content (Ok new) = new
made_or_old content (Err fault) = content

-- the content after edits in turn
unfoldable pub content_after : Content → List Edit → Content
content_after content [] = content
content_after content (edit ∷ edits) = content_after (made_or_old content (after content edit)) edits

-- FACTS OF EVERY CONTENT

-- each script's name is below the names after it
abbrev pub AreOrdered : List (ScriptName × List ℕ) → Type 0
AreOrdered scripts = IsStrictlySortedBy name_cmp (keys_of scripts)

-- no id is the same as one after it
abbrev pub AreDistinctIds : List (List ℕ) → Type 0
AreDistinctIds ids = IsDistinct (pointwise nat_eq) ids

-- the scripts are in the order of their names, and no two messages have one id
pub record IsInOrder (content : Content) : Type 0 where
  pub scripts : AreOrdered content.scripts
  pub ids : AreDistinctIds (keys_of content.messages)

-- no address of the envelope is longer than it may be, nor the mailbox, nor the list of mailboxes
pub record IsEnvelopeWithin (envelope : Envelope) : Type 0 where
  pub from : length envelope.from ≤ address_limit
  pub to : length envelope.to ≤ address_limit
  pub mailbox : length envelope.mailbox ≤ mailbox_limit
  pub mailboxes : length envelope.mailboxes ≤ mailboxes_limit

-- neither of two addresses is longer than it may be
pub record AreAddressesWithin (addresses : Addresses) : Type 0 where
  pub from : length addresses.from ≤ address_limit
  pub to : length addresses.to ≤ address_limit

-- There are no more scripts than there may be. No name and no text is longer than it may be.
pub record AreScriptsWithin (scripts : List (ScriptName × List ℕ)) : Type 0 where
  pub count : length scripts ≤ script_count_limit
  pub names : All (λ name. length name.name ≤ name_limit) (keys_of scripts)
  pub texts : All (λ text. length text ≤ text_limit) (values_of scripts)

-- There are no more messages than there may be. No id, no message and no expected text is longer
-- than it may be. Nor is an address that a message has of its own.
pub record AreMessagesWithin (messages : List (List ℕ × Sample)) : Type 0 where
  pub count : length messages ≤ message_count_limit
  pub ids : All (λ id. length id ≤ id_limit) (keys_of messages)
  pub octets : All (λ sample. length sample.octets ≤ message_limit) (values_of messages)
  pub expected : All (λ sample. IfSome sample.expected (λ text. length text ≤ expected_limit)) (values_of messages)
  pub addresses : All (λ sample. IfSome sample.addresses AreAddressesWithin) (values_of messages)

-- a content is within all its limits
pub record IsWithinLimits (content : Content) : Type 0 where
  pub main : IfSome content.main (λ name. length name.name ≤ name_limit)
  pub envelope : IsEnvelopeWithin content.envelope
  pub scripts : AreScriptsWithin content.scripts
  pub messages : AreMessagesWithin content.messages

-- EDITS THAT MAKE A CONTENT ANEW

-- a message is put, and then its expected text and its own addresses are set
abbrev pub message_edits : List ℕ × Sample → List Edit
message_edits message = put_message message.0 message.1.octets ∷ set_for_one message.0 (own.Expected message.1.expected) ∷ set_for_one message.0 (own.Addresses message.1.addresses) ∷ []

-- the edits that set an envelope
abbrev pub envelope_edits : Envelope → List Edit
envelope_edits envelope =
    set_for_all (common.Addresses (record { from = envelope.from; to = envelope.to })) ∷ set_for_all (common.Mailbox envelope.mailbox)
    ∷ set_for_all (common.Mailboxes envelope.mailboxes) ∷ set_for_all (common.Clock envelope.clock) ∷ []

-- All that a content has, as edits of a new bench. The edits put the scripts in their order and the
-- messages in theirs. Then they set the addresses, the mailbox, the list of mailboxes, the clock
-- and the main script.
unfoldable pub rebuild : Content → List Edit
rebuild content =
    map (λ script. put_script script.0 script.1) content.scripts
    ++ (flat_map message_edits content.messages
    ++ (envelope_edits content.envelope ++ set_for_all (common.Main content.main) ∷ []))
