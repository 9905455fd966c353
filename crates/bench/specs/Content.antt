-- The content of a bench, and how edits change it.
use Rattle.std.specs.Prelude.{◌≡◌, ⊤, ℕ, Bool, false, List, [], ◌∷◌, length, Option, None, Some, Result, Ok, Err, if◌then◌else◌, ◌||◌, ◌&&◌, is_none, is_some, nat_lt, nat_le, nat_eq, codes}
use Rattle.std.specs.Map.{lookup, remove_entry}
use Rattle.std.specs.BTreeMap as tree
use Rattle.indexmap.specs.IndexMap as ordered
use lib.Pointwise.{pointwise}
use Rattle.sieve_limits.specs.Limits.{address_limit, expected_limit, id_limit, mailbox_limit, mailboxes_limit, message_count_limit, message_limit, name_limit, script_count_limit, text_limit}
use Rattle.script_names.specs.declared.name.ScriptName.{ScriptName}
use Rattle.sieve_delivery.specs.declared.envelope.Addresses.{Addresses}
use Rattle.sieve_delivery.specs.declared.envelope.Envelope.{Envelope}
use Rattle.script_names.specs.Name.{name_cmp}
use Rattle.sieve_profile.specs.Profile.{Profile}
use Rattle.bench.specs.declared.fault.EditFault.{EditFault}
use Rattle.bench.specs.declared.fault.EditFault.TheVariants.{TooLarge, NoSuchScript, NameTaken, NoSuchMessage, Full, NoMemory}
use Rattle.bench.specs.declared.setting.MessageSetting.{MessageSetting}
use Rattle.bench.specs.declared.setting.MessageSetting.TheVariants as own
use Rattle.bench.specs.declared.setting.Setting.{Setting}
use Rattle.bench.specs.declared.setting.Setting.TheVariants as common

-- A message's octets, the text that its verdict is expected to have, and the message's own
-- addresses. It may have no such text and no such addresses.
pub record Sample : Type 0 where
  pub octets : List ℕ
  pub expected : Option (List ℕ)
  pub addresses : Option Addresses

-- The extensions that are known beyond those that always are, the main script's name and the
-- envelope. The scripts are in printing order with their texts, and the messages in order by their
-- ids.
pub record Content : Type 0 where
  pub profile : Profile
  pub main : Option ScriptName
  pub envelope : Envelope
  pub scripts : List (ScriptName × List ℕ)
  pub messages : List (List ℕ × Sample)

-- The content of a new bench of a profile. Mail is kept in the INBOX. There are no other mailboxes
-- and no clock.
abbrev pub new_content : Profile → Content
new_content profile = record { profile = profile; main = None; envelope = record { from = []; to = []; mailbox = codes "INBOX"; mailboxes = []; clock = None }; scripts = []; messages = [] }

-- An edit: of a script, of a message, or of a setting. A setting is one that all messages are
-- judged with, or one that a message has beside its octets.
pub data Edit : Type 0 where
  put_script : (name : ScriptName) (text : List ℕ) → Edit
  put_message : (id bytes : List ℕ) → Edit
  rename_script : (from to : ScriptName) → Edit
  remove_script : (name : ScriptName) → Edit
  remove_message : (id : List ℕ) → Edit
  set_for_all : (setting : Setting) → Edit
  set_for_one : (id : List ℕ) (setting : MessageSetting) → Edit

-- the text of the script of that name
abbrev pub text_at : List (ScriptName × List ℕ) → ScriptName → Option (List ℕ)
text_at scripts name = lookup (tree.is_at (name_cmp name)) scripts

-- the message of that id
abbrev pub message_at : List (List ℕ × Sample) → List ℕ → Option Sample
message_at messages id = lookup (pointwise nat_eq id) messages

-- The message after a put of octets over the one that was there, if one was. Its expected text and
-- its addresses stay.
abbrev pub put_over : List ℕ → Option Sample → Sample
put_over bytes None = record { octets = bytes; expected = None; addresses = None }
put_over bytes (Some sample) = record sample { octets = bytes }

-- the scripts with this text at the name: in the place of the one there, or by its order
abbrev pub with_script : ScriptName → List ℕ → List (ScriptName × List ℕ) → List (ScriptName × List ℕ)
with_script name text scripts = tree.insert_entry name_cmp scripts name text

-- the messages with these octets at the id: in the place of the one there, or last
abbrev pub with_message : List ℕ → List ℕ → List (List ℕ × Sample) → List (List ℕ × Sample)
with_message id bytes messages = ordered.insert_entry (pointwise nat_eq) messages id (put_over bytes (message_at messages id))

-- the values by ids, with the value at the id changed; the others stay as they are
abbrev pub changed : {X : Type 0} → List ℕ → (X → X) → List (List ℕ × X) → List (List ℕ × X)
changed id change [] = []
changed id change (m ∷ ms) = if pointwise nat_eq id m.0 then (m.0, change m.1) ∷ ms else m ∷ changed id change ms

-- a message with a setting
abbrev pub sample_with : MessageSetting → Sample → Sample
sample_with (own.Expected expected) sample = record sample { expected = expected }
sample_with (own.Addresses addresses) sample = record sample { addresses = addresses }

-- the scripts without the one at the name
abbrev pub without_script : ScriptName → List (ScriptName × List ℕ) → List (ScriptName × List ℕ)
without_script name scripts = remove_entry (tree.is_at (name_cmp name)) scripts

-- the messages without the one at the id; the others stay in their order
abbrev pub without_message : List ℕ → List (List ℕ × Sample) → List (List ℕ × Sample)
without_message id messages = remove_entry (pointwise nat_eq id) messages

-- the scripts with the text at one name put at another
abbrev pub with_renamed : ScriptName → Option (List ℕ) → ScriptName → List (ScriptName × List ℕ) → List (ScriptName × List ℕ)
with_renamed from None to scripts = scripts
with_renamed from (Some text) to scripts = without_script from (with_script to text scripts)

-- whether a script's name has too many octets
abbrev pub is_long : List ℕ → Bool
is_long name = nat_lt name_limit (length name)

-- whether a message's id has too many octets
abbrev pub is_long_id : List ℕ → Bool
is_long_id id = nat_lt id_limit (length id)

-- the name and the text have their limits, and a new script must find room among the others
abbrev pub script_refusal : List (ScriptName × List ℕ) → ScriptName → List ℕ → Option EditFault
script_refusal scripts name text =
    if is_long name.name || nat_lt text_limit (length text) then Some TooLarge
    else if is_none (text_at scripts name) && nat_le script_count_limit (length scripts) then Some Full
    else None

-- the id and the octets have their limits, and a new message must find room among the others
abbrev pub message_refusal : List (List ℕ × Sample) → List ℕ → List ℕ → Option EditFault
message_refusal messages id bytes =
    if is_long_id id || nat_lt message_limit (length bytes) then Some TooLarge
    else if is_none (message_at messages id) && nat_le message_count_limit (length messages) then Some Full
    else None

-- the name to rename must be there, and the new one must not; so they may not be the same
abbrev pub rename_refusal : List (ScriptName × List ℕ) → ScriptName → ScriptName → Option EditFault
rename_refusal scripts from to =
    if is_long from.name || is_long to.name then Some TooLarge
    else if is_none (text_at scripts from) then Some NoSuchScript
    else if is_some (text_at scripts to) then Some NameTaken
    else None

abbrev pub remove_script_refusal : List (ScriptName × List ℕ) → ScriptName → Option EditFault
remove_script_refusal scripts name =
    if is_long name.name then Some TooLarge
    else if is_none (text_at scripts name) then Some NoSuchScript
    else None

-- the id has its limit, and its message must be there
abbrev pub absent_refusal : List (List ℕ × Sample) → List ℕ → Option EditFault
absent_refusal messages id =
    if is_long_id id then Some TooLarge
    else if is_none (message_at messages id) then Some NoSuchMessage
    else None

-- whether one of two addresses has too many octets
abbrev pub are_long : List ℕ → List ℕ → Bool
are_long from to = nat_lt address_limit (length from) || nat_lt address_limit (length to)

-- whether a setting has too many octets: a main script's name, an address, a mailbox or the list of
-- mailboxes
abbrev pub is_large : Setting → Bool
is_large (common.Main None) = false
is_large (common.Main (Some name)) = is_long name.name
is_large (common.Addresses addresses) = are_long addresses.from addresses.to
is_large (common.Mailbox mailbox) = nat_lt mailbox_limit (length mailbox)
is_large (common.Mailboxes text) = nat_lt mailboxes_limit (length text)
is_large (common.Clock clock) = false

abbrev pub setting_refusal : Setting → Option EditFault
setting_refusal setting = if is_large setting then Some TooLarge else None

-- whether a setting of a message has too many octets: the text that is expected, or an address
abbrev pub is_large_for_one : MessageSetting → Bool
is_large_for_one (own.Expected None) = false
is_large_for_one (own.Expected (Some text)) = nat_lt expected_limit (length text)
is_large_for_one (own.Addresses None) = false
is_large_for_one (own.Addresses (Some addresses)) = are_long addresses.from addresses.to

-- the id and the setting have their limits, and the message must be there
abbrev pub one_refusal : List (List ℕ × Sample) → List ℕ → MessageSetting → Option EditFault
one_refusal messages id setting =
    if is_long_id id || is_large_for_one setting then Some TooLarge
    else if is_none (message_at messages id) then Some NoSuchMessage
    else None

-- the main script, and the envelope, with a setting
abbrev pub main_with : Setting → Option ScriptName → Option ScriptName
main_with (common.Main name) main = name
main_with other main = main

abbrev pub envelope_with : Setting → Envelope → Envelope
envelope_with (common.Main name) envelope = envelope
envelope_with (common.Addresses addresses) envelope = record envelope { from = addresses.from; to = addresses.to }
envelope_with (common.Mailbox mailbox) envelope = record envelope { mailbox = mailbox }
envelope_with (common.Mailboxes text) envelope = record envelope { mailboxes = text }
envelope_with (common.Clock clock) envelope = record envelope { clock = clock }

-- the first refusal, or else the content
abbrev pub unless : Option EditFault → Content → Result Content EditFault
unless None content = Ok content
unless (Some fault) content = Err fault

-- the content after an edit, or why the edit is refused
abbrev pub after : Content → Edit → Result Content EditFault
after content (put_script name text) = unless (script_refusal content.scripts name text) (record content { scripts = with_script name text content.scripts })
after content (put_message id bytes) = unless (message_refusal content.messages id bytes) (record content { messages = with_message id bytes content.messages })
after content (rename_script from to) = unless (rename_refusal content.scripts from to) (record content { scripts = with_renamed from (text_at content.scripts from) to content.scripts })
after content (remove_script name) = unless (remove_script_refusal content.scripts name) (record content { scripts = without_script name content.scripts })
after content (remove_message id) = unless (absent_refusal content.messages id) (record content { messages = without_message id content.messages })
after content (set_for_all setting) = unless (setting_refusal setting) (record content { main = main_with setting content.main; envelope = envelope_with setting content.envelope })
after content (set_for_one id setting) = unless (one_refusal content.messages id setting) (record content { messages = changed id (sample_with setting) content.messages })

-- the refusal that was found: there is none, or it is this one
abbrev pub FindsRefusal : Option EditFault → Result Unit EditFault → Type 0
FindsRefusal refusal (Ok done) = refusal ≡ None
FindsRefusal refusal (Err fault) = refusal ≡ Some fault

-- an edit that is never out of memory answers a refusal exactly where it has one
abbrev pub Answers : Result Content EditFault → Result Unit EditFault → Type 0
Answers (Ok content) (Ok done) = ⊤
Answers (Ok content) (Err fault) = ⊥
Answers (Err refusal) (Ok done) = ⊥
Answers (Err refusal) (Err fault) = fault ≡ refusal

-- an edit answers a refusal exactly where it has one, and else may only be out of memory
abbrev pub Refuses : Result Content EditFault → Result Unit EditFault → Type 0
Refuses (Ok content) (Ok done) = ⊤
Refuses (Ok content) (Err fault) = fault ≡ NoMemory
Refuses (Err refusal) (Ok done) = ⊥
Refuses (Err refusal) (Err fault) = fault ≡ refusal
