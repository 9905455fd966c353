-- The text of a report.
use Rattle.std.specs.Prelude.{ℕ, Bool, true, false, not, List, [], ◌∷◌, ◌++◌, length, map, filter, Option, None, Some, is_some, if◌then◌else◌, count_by, codes, decimal}
use Rattle.std.specs.List.{flat_map, list_any}
use Rattle.date_text.specs.Clock.{Clock}
use Rattle.date_text.specs.Zone.{zone_text}
use Rattle.devices.specs.Writers.{name_text, quoted}
use Rattle.sieve_check.specs.Judgement.{Judgement, judgement_of, sound, faulty, fault_word}
use Rattle.script_names.specs.declared.name.ScriptName.{ScriptName}
use Rattle.sieve_delivery.specs.Delivery.{mailbox_count}
use Rattle.sieve_delivery.specs.State.{Entered}
use Rattle.sieve_delivery.specs.declared.envelope.Addresses.{Addresses}
use Rattle.sieve_delivery.specs.declared.envelope.Envelope.{Envelope}
use Rattle.sieve_run.specs.Library.{library_of}
use Rattle.sieve_verdict.specs.Lines.{action_line, agrees, error_lines, implicit_lines, origin_line, lookup_lines, verdict_lines}
use Rattle.sieve_run.specs.Run.{verdict_of}
use Rattle.sieve_verdict.specs.Verdict.{Verdict}
use Rattle.sieve_profile.specs.Extension.{extension_name, extensions}
use Rattle.sieve_profile.specs.Profile.{Profile, has}
use Rattle.sieve_profile.specs.declared.extension.Extension.{Extension}
use Rattle.sieve_profile.specs.declared.extension.Extension.TheVariants.{Date, Lines, Mailbox}
use Rattle.bench.specs.Content.{Content, Sample, text_at}

-- the first line: the main script
unfoldable pub main_line : Option ScriptName → List ℕ
main_line None = codes "main none\n"
main_line (Some name) = codes "main " ++ name_text name ++ codes "\n"

-- the second line: the envelope and the mailbox
unfoldable pub envelope_line : Envelope → List ℕ
envelope_line envelope = codes "envelope " ++ quoted envelope.from ++ codes " " ++ quoted envelope.to ++ codes " mailbox " ++ quoted envelope.mailbox ++ codes "\n"

-- the judgement of a text: that it has no fault, or the line and the kind of its first one
abbrev pub judgement_text : Judgement → List ℕ
judgement_text (sound _) = codes "ok"
judgement_text (faulty line kind) = codes "line " ++ decimal line ++ codes " " ++ fault_word kind

-- an extension's name in a line
abbrev pub extension_text : Extension → List ℕ
extension_text extension = codes " " ++ extension_name extension

-- the line of these extensions, where there are any
unfoldable pub extensions_line : List Extension → List ℕ
extensions_line [] = []
extensions_line (extension ∷ more) = codes "with" ++ flat_map extension_text (extension ∷ more) ++ codes "\n"

-- after the second line: the names of the extensions of a profile, in their order
abbrev pub profile_line : Profile → List ℕ
profile_line profile = extensions_line (filter (has profile) extensions)

-- the line of a clock: its seconds since 1970-01-01 00:00 UTC and its zone, or `none`
unfoldable pub clock_text : Option Clock → List ℕ
clock_text None = codes "clock none\n"
clock_text (Some clock) = codes "clock " ++ decimal clock.seconds ++ codes " " ++ zone_text clock.zone ++ codes "\n"

-- after that, with `date`: what time it is
abbrev pub clock_line : Profile → Option Clock → List ℕ
clock_line profile clock = if has profile Date then clock_text clock else []

-- after that, with `mailbox`: how many names the list of mailboxes has
abbrev pub mailboxes_line : Profile → List ℕ → List ℕ
mailboxes_line profile mailboxes = if has profile Mailbox then codes "mailboxes " ++ decimal (mailbox_count mailboxes) ++ codes "\n" else []

-- the line of a script, whose text is this
unfoldable pub script_line : Profile → ScriptName × List ℕ → List ℕ
script_line profile (name, text) = codes "script " ++ name_text name ++ codes " " ++ judgement_text (judgement_of profile text) ++ codes "\n"

-- the blanks before each line of a message but its first
unfoldable pub indent : List ℕ
indent = codes "  "

-- a line of a message in a report
abbrev pub indented : List ℕ → List ℕ
indented line = indent ++ line ++ codes "\n"

-- the line of an action, and that of the command that entered it first
abbrev pub traced_lines : Entered → List (List ℕ)
traced_lines entry = action_line entry.action ∷ origin_line entry.origin ∷ []

-- the lines of a verdict as they are expected, or with the line of its origin after each action
abbrev pub told_lines : (traced : Bool) → (mailbox : List ℕ) → Verdict → List (List ℕ)
told_lines false mailbox verdict = verdict_lines mailbox verdict
told_lines true mailbox verdict = flat_map traced_lines verdict.entries ++ (implicit_lines mailbox verdict.implicit ++ error_lines verdict.error)

-- the lines of a verdict, with `lines` also of where each action comes from, and of the looked-up
-- names
abbrev pub verdict_text : Profile → (mailbox : List ℕ) → Verdict → List ℕ
verdict_text profile mailbox verdict = flat_map indented (told_lines (has profile Lines) mailbox verdict ++ lookup_lines verdict)

-- the first line of a message
unfoldable pub message_line : List ℕ → List ℕ
message_line id = codes "message " ++ quoted id ++ codes "\n"

-- the line of the addresses that a message has of its own
unfoldable pub addresses_line : Addresses → List ℕ
addresses_line addresses = codes "envelope " ++ quoted addresses.from ++ codes " " ++ quoted addresses.to

-- the second line of a message that has addresses of its own
abbrev pub addresses_text : Option Addresses → List ℕ
addresses_text None = []
addresses_text (Some addresses) = indented (addresses_line addresses)

-- A message that is judged: its id, its own addresses, the verdict on it, and the verdict's
-- expected text. It may have no addresses of its own, and no text may be expected.
pub record JudgedMessage : Type 0 where
  pub id : List ℕ
  pub addresses : Option Addresses
  pub verdict : Verdict
  pub expected : Option (List ℕ)

-- whether a verdict is as it is expected to be
abbrev pub expectation_line : Bool → List ℕ
expectation_line true = codes "expected"
expectation_line false = codes "unexpected"

-- the last line of a message of which a text is expected
abbrev pub expectation_text : (mailbox : List ℕ) → Verdict → Option (List ℕ) → List ℕ
expectation_text mailbox verdict None = []
expectation_text mailbox verdict (Some text) = indented (expectation_line (agrees mailbox verdict text))

-- the values that all messages are judged with
pub record Site : Type 0 where
  pub profile : Profile
  pub main : Option ScriptName
  pub envelope : Envelope
  pub scripts : List (ScriptName × List ℕ)

-- the lines of a message with its verdict
abbrev pub message_lines : Site → JudgedMessage → List ℕ
message_lines site judged =
    message_line judged.id
    ++ (addresses_text judged.addresses
    ++ (verdict_text site.profile site.envelope.mailbox judged.verdict ++ expectation_text site.envelope.mailbox judged.verdict judged.expected))

abbrev pub site_of : Content → Site
site_of content = record { profile = content.profile; main = content.main; envelope = content.envelope; scripts = content.scripts }

-- the verdict on a message, by its octets and its own addresses
abbrev pub verdict_by : Site → Sample → Verdict
verdict_by site sample =
    verdict_of (library_of site.profile (text_at site.scripts)) site.main
    (record { message = sample.octets; envelope = site.envelope; own = sample.addresses; profile = site.profile })

-- each message, judged
unfoldable pub verdicts : Site → List (List ℕ × Sample) → List JudgedMessage
verdicts site messages = map (λ e. record { id = e.0; addresses = e.1.addresses; verdict = verdict_by site e.1; expected = e.1.expected }) messages

-- how many verdicts have an error
abbrev pub error_count : List JudgedMessage → ℕ
error_count judged = count_by (λ j. is_some j.verdict.error) judged

-- whether a text is expected of a verdict, and it has another
abbrev pub is_unlike : (mailbox : List ℕ) → Verdict → Option (List ℕ) → Bool
is_unlike mailbox verdict None = false
is_unlike mailbox verdict (Some text) = not (agrees mailbox verdict text)

-- how many verdicts are not as expected, where a text is expected of some message
unfoldable pub unexpected_count : (mailbox : List ℕ) → List JudgedMessage → Option ℕ
unexpected_count mailbox judged = if list_any (λ j. is_some j.expected) judged then Some (count_by (λ j. is_unlike mailbox j.verdict j.expected) judged) else None

-- The last line: how many messages there are and how many have an error. It also has how many are
-- not as expected, if that is printed.
unfoldable pub total_line : ℕ → ℕ → Option ℕ → List ℕ
total_line messages errors None = codes "total " ++ decimal messages ++ codes " messages " ++ decimal errors ++ codes " errors\n"
total_line messages errors (Some unexpected) = codes "total " ++ decimal messages ++ codes " messages " ++ decimal errors ++ codes " errors " ++ decimal unexpected ++ codes " unexpected\n"

-- the lines that depend on a profile's extensions
unfoldable pub profile_lines : Profile → Envelope → List ℕ
profile_lines profile envelope = profile_line profile ++ (clock_line profile envelope.clock ++ mailboxes_line profile envelope.mailboxes)

-- the lines before the messages
unfoldable pub site_lines : Site → List ℕ
site_lines site =
    main_line site.main
    ++ (envelope_line site.envelope
    ++ (profile_lines site.profile site.envelope ++ flat_map (script_line site.profile) site.scripts))

-- the report with these verdicts
unfoldable pub report_with : Site → List JudgedMessage → List ℕ
report_with site judged =
    site_lines site
    ++ (flat_map (message_lines site) judged
    ++ total_line (length judged) (error_count judged) (unexpected_count site.envelope.mailbox judged))

-- the report of a content
abbrev pub report_text : Content → List ℕ
report_text content = report_with (site_of content) (verdicts (site_of content) content.messages)
