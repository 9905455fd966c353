-- The program's readings of commands and tests.
use Rattle.std.specs.Prelude.{List, Option}
use Rattle.std.specs.Option.{option_map}
use Rattle.std.specs.declared.alloc.Global.{Global}
use Rattle.std.specs.declared.boxed.Box.{Box}
use Rattle.std.specs.declared.vec.Vec.{Vec}
use Rattle.sieve_script.specs.Reading as reading
use Rattle.sieve_variables.specs.Part.{Part}
use Rattle.sieve_script.specs.declared.reading.Ask.{Ask}
use Rattle.sieve_script.specs.declared.reading.Ask.TheVariants.{Compares, Exists, Over, Under, MailboxExists, Duplicate}
use Rattle.sieve_script.specs.declared.reading.BodyTransform.{BodyTransform}
use Rattle.sieve_script.specs.declared.reading.BodyTransform.TheVariants as transform
use Rattle.sieve_script.specs.declared.reading.DateZone.{DateZone}
use Rattle.sieve_script.specs.declared.reading.DateZone.TheVariants as zone
use Rattle.sieve_script.specs.declared.reading.CommandReading.{CommandReading}
use Rattle.sieve_script.specs.declared.reading.CommandReading.TheVariants.{If, Elsif, Else, Stop, Return, Nothing, Act}
use Rattle.sieve_script.specs.declared.reading.Leaf.{Leaf}
use Rattle.sieve_script.specs.declared.reading.Settings as settings
use Rattle.sieve_script.specs.declared.reading.Leaf.TheVariants.{Keep, Fileinto, Redirect, Discard, Set, Flags, Include, Vacation, Reject}
use Rattle.sieve_script.specs.declared.reading.Vacation as vacations
use Rattle.sieve_script.specs.declared.reading.ValueSource.{ValueSource}
use Rattle.sieve_script.specs.declared.reading.ValueSource.TheVariants as source
use Rattle.sieve_script.specs.declared.reading.TestReading.{TestReading}
use Rattle.sieve_script.specs.declared.reading.TestReading.TheVariants.{Always, Never, Asks, AllOf, AnyOf, Not}

-- a list of strings as a reading keeps it
abbrev pub list_as : Vec (List Part) Global → List (List Part)
list_as texts = texts.items

-- The zone in which a date is shown, the part of a body, and the source of a test's values. The
-- functions give the values of names of fields, lists, lists that may be left out, and strings.
abbrev pub date_zone_by : {S : Type 0} → (S → List Part) → DateZone S → reading.DateZone
date_zone_by string zone.Local = reading.local_zone
date_zone_by string zone.Original = reading.original_zone
date_zone_by string (zone.Named named) = reading.named_zone (string named)

abbrev pub body_by : {L : Type 0} → (L → List (List Part)) → BodyTransform L → reading.BodyTransform
body_by list transform.Raw = reading.raw_transform
body_by list (transform.Content entries) = reading.content_transform (list entries)
body_by list transform.Text = reading.text_transform

abbrev pub source_by : {N L S : Type 0} → (N → List (List Part)) → (L → List (List Part)) → (Option L → Option (List (List Part))) → (S → List Part) → ValueSource N L S → reading.ValueSource
source_by names list given_list string (source.Fields part fields) = reading.field_values part (names fields)
source_by names list given_list string (source.Envelope part parts) = reading.envelope_values part (list parts)
source_by names list given_list string (source.String texts) = reading.string_values (list texts)
source_by names list given_list string (source.Flags variables) = reading.flag_values (given_list variables)
source_by names list given_list string (source.Date zone field part) = reading.date_values (date_zone_by string zone) (string field) (string part)
source_by names list given_list string (source.CurrentDate zone part) = reading.clock_values (date_zone_by string zone) (string part)
source_by names list given_list string (source.Body transform) = reading.body_values (body_by list transform)

-- The settings of a `fileinto`, and the arguments of a `vacation`. The functions give the values of
-- lists and strings that may be left out, and of the text.
abbrev pub filed_by : {L S : Type 0} → (Option L → Option (List (List Part))) → (Option S → Option (List Part)) → settings.Settings L S → reading.Settings
filed_by given_list given_string s = record { flags = given_list s.flags; copy = s.copy; create = s.create; special_use = given_string s.special_use }

abbrev pub answered_by : {L S : Type 0} → (S → List Part) → (Option L → Option (List (List Part))) → (Option S → Option (List Part)) → vacations.Vacation L S → reading.Vacation
answered_by string given_list given_string v = record {
  reason = string v.reason;
  days = v.days;
  subject = given_string v.subject;
  from = given_string v.from;
  addresses = given_list v.addresses;
  mime = v.mime;
  handle = given_string v.handle;
}

-- The question of a test, and a command that acts, by the same functions. `answer` gives the
-- arguments of a `vacation`.
abbrev pub ask_by : {N L S : Type 0} → (N → List (List Part)) → (L → List (List Part)) → (Option L → Option (List (List Part))) → (S → List Part) → Ask N L S → reading.Ask
ask_by names list given_list string (Compares source comparison keys) = reading.compares (source_by names list given_list string source) comparison (list keys)
ask_by names list given_list string (Exists fields) = reading.exists_ask (names fields)
ask_by names list given_list string (Over limit) = reading.over_ask limit
ask_by names list given_list string (Under limit) = reading.under_ask limit
ask_by names list given_list string (MailboxExists mailboxes) = reading.mailboxes_ask (list mailboxes)
ask_by names list given_list string Duplicate = reading.duplicate_ask

abbrev pub leaf_by :
    {L S V : Type 0} → (L → List (List Part)) → (Option L → Option (List (List Part))) → (S → List Part) → (Option S → Option (List Part)) → (V → reading.Vacation) → Leaf L S V → reading.Leaf
leaf_by list given_list string given_string answer (Keep flags) = reading.keep_leaf (given_list flags)
leaf_by list given_list string given_string answer (Fileinto mailbox settings) = reading.fileinto_leaf (string mailbox) (filed_by given_list given_string settings)
leaf_by list given_list string given_string answer (Redirect address copy) = reading.redirect_leaf (string address) copy
leaf_by list given_list string given_string answer Discard = reading.discard_leaf
leaf_by list given_list string given_string answer (Set variable modifiers value) = reading.set_leaf variable modifiers (string value)
leaf_by list given_list string given_string answer (Flags change variable flags) = reading.flag_leaf change variable (list flags)
leaf_by list given_list string given_string answer (Include location once optional name) = reading.include_leaf location once optional name
leaf_by list given_list string given_string answer (Vacation vacation) = reading.vacation_leaf (answer vacation)
leaf_by list given_list string given_string answer (Reject how reason) = reading.reject_leaf how (string reason)

-- readings of a script, whose strings are parts
abbrev pub date_zone_as : DateZone (List Part) → reading.DateZone
date_zone_as = date_zone_by (λ parts. parts)

abbrev pub transform_as : BodyTransform (Vec (List Part) Global) → reading.BodyTransform
transform_as = body_by list_as

abbrev pub source_as : ValueSource (Vec (List Part) Global) (Vec (List Part) Global) (List Part) → reading.ValueSource
source_as = source_by list_as list_as (option_map list_as) (λ parts. parts)

abbrev pub settings_as : settings.Settings (Vec (List Part) Global) (List Part) → reading.Settings
settings_as = filed_by (option_map list_as) (λ string. string)

abbrev pub ReadVacation : Type 0
ReadVacation = vacations.Vacation (Vec (List Part) Global) (List Part)

abbrev pub vacation_as : ReadVacation → reading.Vacation
vacation_as = answered_by (λ parts. parts) (option_map list_as) (λ string. string)

-- the question of a test, and a command that acts, as they are read
abbrev pub ReadAsk : Type 0
ReadAsk = Ask (Vec (List Part) Global) (Vec (List Part) Global) (List Part)

abbrev pub ReadLeaf : Type 0
ReadLeaf = Leaf (Vec (List Part) Global) (List Part) (Box ReadVacation Global)

abbrev pub ask_as : ReadAsk → reading.Ask
ask_as = ask_by list_as list_as (option_map list_as) (λ parts. parts)

abbrev pub test_reading_as : TestReading → reading.TestReading
test_reading_as Always = reading.reads_always
test_reading_as Never = reading.reads_never
test_reading_as (Asks ask) = reading.reads_ask (ask_as ask)
test_reading_as AllOf = reading.reads_all
test_reading_as AnyOf = reading.reads_any
test_reading_as Not = reading.reads_not

abbrev pub leaf_as : ReadLeaf → reading.Leaf
leaf_as = leaf_by list_as (option_map list_as) (λ parts. parts) (λ string. string) (λ boxed. vacation_as boxed.value)

abbrev pub command_reading_as : CommandReading → reading.CommandReading
command_reading_as If = reading.reads_if
command_reading_as Elsif = reading.reads_elsif
command_reading_as Else = reading.reads_else
command_reading_as Stop = reading.reads_stop
command_reading_as Return = reading.reads_return
command_reading_as Nothing = reading.reads_nothing
command_reading_as (Act leaf) = reading.reads_act (leaf_as leaf)
