-- The words of a command line: the profile, the clock and the job.
use Rattle.std.specs.Prelude.{◌≡◌, ◌≢◌, ℕ, Bool, true, false, not, ◌&&◌, ◌||◌, ◌==◌, List, [], ◌∷◌, Option, Some, None, is_some, Result, Ok, Err, codes, if◌then◌else◌, take, drop, position, unwrap_or}
use Prim.Native.Char.{code}
use Rattle.std.specs.Str.{bytes_eq}
use Rattle.clap.specs.Words.{App, IsAmong, Kinds, Row, Shape, Text, app_of, fault_of, new_app, subcommand_of, with_rule, with_subcommand}
use Rattle.clap.specs.Simple.{new_rule, new_shape, on_top}
use Rattle.clap.specs.Walk.{Rule, first_of}
use Rattle.clap.specs.declared.error.kind.ErrorKind.{ErrorKind}
use Rattle.clap.specs.declared.error.kind.ErrorKind.TheVariants.{DisplayHelp, DisplayVersion, OutOfMemory}
use Rattle.clap.specs.declared.builder.command.Command.{Command}
use Rattle.clap.specs.declared.builder.command.Command.TheViews.{out-Command}
use Rattle.date_text.specs.Clock.{Clock, clock_named}
use Rattle.command_line.specs.declared.words.CommandLine.{CommandLine}
use Rattle.command_line.specs.declared.words.Job.{Job}
use Rattle.command_line.specs.declared.words.Job.TheVariants as job
use Rattle.command_line.specs.declared.words.TestWords.{TestWords}
use Rattle.command_line.specs.declared.words.UsageFault.{UsageFault}
use Rattle.command_line.specs.declared.words.UsageFault.TheVariants.{Usage, UnknownName, NeedsMailbox, NeedsDate, BadClock, NoMemory}
use Rattle.clap.specs.declared.builder.action.ArgAction.TheVariants.{Append}
use Rattle.sieve_profile.specs.Profile.{Profile, empty_profile, has}
use Rattle.sieve_profile.specs.declared.extension.Extension.{Extension}
use Rattle.sieve_profile.specs.declared.extension.Extension.TheVariants as extension
use Rattle.sieve_profile.specs.view.Profile.{profile_as}
use Rattle.command_line.specs.Profiles.{profile_in}

-- a path that must be there; help calls its one value by one name
unfoldable pub path_rule : Text → Rule
path_rule id = record (new_rule id) { value_names = 1; required = true }

-- an option with one value: a letter names it, as `-f ADDRESS`
unfoldable pub letter_rule : Text → ℕ → Rule
letter_rule id letter = record (new_rule id) { short = Some letter; value_names = 1 }

-- an option with one value: its name names it, as `--to ADDRESS`
unfoldable pub name_rule : Text → Rule
name_rule name = record (new_rule name) { long = Some name; value_names = 1 }

-- an option with one value that may be given any number of times: its name names it, as
-- `--with NAME`
unfoldable pub names_rule : Text → Rule
names_rule name = record (new_rule name) { long = Some name; action = Some Append; value_names = 1 }

-- the option of each subcommand for a bench's extensions
abbrev pub profile_rules : List Rule
profile_rules = names_rule (codes "with") ∷ []

-- `session [--with NAME]..`
unfoldable pub session_shape : Shape
session_shape = record (new_shape (codes "session")) { rules = profile_rules }

-- `dump [--with NAME].. SCRIPT`
unfoldable pub dump_shape : Shape
dump_shape = record (new_shape (codes "dump")) { rules = names_rule (codes "with") ∷ path_rule (codes "script") ∷ [] }

-- `test [-f ADDRESS] [--to ADDRESS] [-m BOX] [--mailboxes FILE] [--clock TIME]`, and then
-- `[--personal DIR] [--global DIR] [--with NAME].. SCRIPT MAIL`
unfoldable pub test_shape : Shape
test_shape = record (new_shape (codes "test")) {
  rules = letter_rule (codes "from") (code "f") ∷ name_rule (codes "to") ∷ letter_rule (codes "mailbox") (code "m")
      ∷ name_rule (codes "mailboxes") ∷ name_rule (codes "clock") ∷ name_rule (codes "personal") ∷ name_rule (codes "global") ∷ names_rule (codes "with")
      ∷ path_rule (codes "script") ∷ path_rule (codes "mail") ∷ [];
}

-- the options of `test` for the envelope
abbrev pub envelope_rules : List Rule
envelope_rules = letter_rule (codes "from") (code "f") ∷ name_rule (codes "to") ∷ []

-- the options of a test for the mailbox that mail is kept in and for the list of mailboxes
abbrev pub mailbox_rules : List Rule
mailbox_rules = letter_rule (codes "mailbox") (code "m") ∷ name_rule (codes "mailboxes") ∷ []

-- the option of a test for the clock
abbrev pub clock_rules : List Rule
clock_rules = name_rule (codes "clock") ∷ []

-- the options of a test for folders of scripts
abbrev pub folder_rules : List Rule
folder_rules = name_rule (codes "personal") ∷ name_rule (codes "global") ∷ []

-- the files of a test
abbrev pub file_rules : List Rule
file_rules = path_rule (codes "script") ∷ path_rule (codes "mail") ∷ []

-- a command's words with these rules more, the last
abbrev pub with_rules : App → List Rule → App
with_rules app [] = app
with_rules app (rule ∷ rules) = with_rules (with_rule app rule) rules

-- `new` is `old` with arguments of these rules more, none of which is global
abbrev pub HasMore : Command → List Rule → Command → Type 0
HasMore old rules new = (app_of new ≡ with_rules (app_of old) rules) × ((out-Command new).has_globals ≡ (out-Command old).has_globals)

-- the program, which requires a subcommand and has a version
unfoldable pub top_app : App
top_app = on_top (λ s. record s { has_version = true; subcommand_required = true; arg_required_else_help = true }) (new_app (codes "sievebench"))

-- the program and its subcommands
unfoldable pub the_app : App
the_app = with_subcommand (with_subcommand (with_subcommand top_app session_shape) dump_shape) test_shape

-- The value of an argument that must be there. Where nothing is wrong it has one, and the empty
-- text stands for none.
abbrev pub value_in : List Row → Text → Text
value_in rows argument = unwrap_or (first_of argument rows) []

-- the words of `test` with these matches: each is the value of its own argument
abbrev pub test_words : List Row → TestWords
test_words rows = record {
  from = first_of (codes "from") rows;
  to = first_of (codes "to") rows;
  mailbox = first_of (codes "mailbox") rows;
  mailboxes = first_of (codes "mailboxes") rows;
  clock = first_of (codes "clock") rows;
  personal = first_of (codes "personal") rows;
  global = first_of (codes "global") rows;
  script = value_in rows (codes "script");
  mail = value_in rows (codes "mail");
}

-- the job of a subcommand of this name with these matches
abbrev pub job_named : Text → List Row → Option Job
job_named name rows =
    if bytes_eq name (codes "session") then Some job.Session
    else if bytes_eq name (codes "dump") then Some (job.Dump (value_in rows (codes "script")))
    else if bytes_eq name (codes "test") then Some (job.Test (test_words rows))
    else None

-- the job of the subcommand that was met
abbrev pub job_of : Option (Text × List Row) → Option Job
job_of None = None
job_of (Some (name, rows)) = job_named name rows

-- a job that is named counts where nothing is wrong
abbrev pub where_taken : Kinds → Option Job → Option Job
where_taken [] job = job
where_taken (fault ∷ faults) job = None

-- the job that the words name, where the program takes them; the first word is the program's name
unfoldable pub named_job : List Text → Option Job
named_job words = where_taken (fault_of the_app words) (job_of (subcommand_of the_app words))

-- the profile that the words say, or the first unknown name
abbrev pub profile_met : Option (Text × List Row) → Result Profile Text
profile_met None = Ok empty_profile
profile_met (Some (name, rows)) = profile_in rows

unfoldable pub said_profile : List Text → Result Profile Text
said_profile words = profile_met (subcommand_of the_app words)

-- Whether a job needs a name. A test with a list of mailboxes needs `mailbox`, and one with a clock
-- needs `date`.
abbrev pub name_needed : Job → Extension → Bool
name_needed (job.Test words) extension.Mailbox = is_some words.mailboxes
name_needed (job.Test words) extension.Date = is_some words.clock
name_needed other name = false

-- whether a profile lacks a name that a job needs
abbrev pub is_lacking : Profile → Job → Extension → Bool
is_lacking profile asked name = name_needed asked name && not (has profile name)

-- whether a profile has each name that a job needs
abbrev pub allows : Profile → Job → Bool
allows profile asked = not (is_lacking profile asked extension.Mailbox) && not (is_lacking profile asked extension.Date)

-- the profile that is said lacks a name that the job needs
abbrev pub Lacks : Extension → Result Profile Text → Option Job → Type 0
Lacks name (Ok profile) (Some asked) = is_lacking profile asked name ≡ true
Lacks name (Ok profile) None = ⊥
Lacks name (Err unknown) asked = ⊥

-- THE CLOCK

-- whether an octet begins a zone
abbrev pub is_sign : ℕ → Bool
is_sign c = c == code "+" || c == code "-"

-- the clock of a word whose zone begins at a place, or is that of UTC
abbrev pub clock_cut : Text → Option ℕ → Option Clock
clock_cut word None = clock_named word (codes "+0000")
clock_cut word (Some place) = clock_named (take place word) (drop place word)

-- the clock of a word: digits, and maybe a zone
abbrev pub clock_of : Text → Option Clock
clock_of word = clock_cut word (position is_sign word)

-- a clock, or the word that names none
abbrev pub clock_or : Text → Option Clock → Result (Option Clock) Text
clock_or word None = Err word
clock_or word (Some clock) = Ok (Some clock)

-- the clock of an option's word, where it is given
abbrev pub clock_in : Option Text → Result (Option Clock) Text
clock_in None = Ok None
clock_in (Some word) = clock_or word (clock_of word)

-- the clock that a job's words say, or the word that names none
abbrev pub clock_said : Job → Result (Option Clock) Text
clock_said job.Session = Ok None
clock_said (job.Dump script) = Ok None
clock_said (job.Test words) = clock_in words.clock

-- The profile that is said has each name that the job needs. This word of the job names no clock.
abbrev pub HasBadClock : Result Profile Text → Option Job → Text → Type 0
HasBadClock (Ok profile) (Some asked) word = (allows profile asked ≡ true) × (clock_said asked ≡ Err word)
HasBadClock (Ok profile) None word = ⊥
HasBadClock (Err unknown) asked word = ⊥

-- whether an answer of this kind is the help or the version that was asked for, and no mistake
abbrev pub is_help : ErrorKind → Bool
is_help DisplayHelp = true
is_help DisplayVersion = true
is_help _ = false

-- the fault for an answer of this kind
abbrev pub IsFaultFor : ErrorKind → UsageFault → Type 0
IsFaultFor kind NoMemory = Unit {0}
IsFaultFor kind (Usage help text) = (kind ≢ OutOfMemory) × (help ≡ is_help kind)
IsFaultFor kind other = ⊥

-- The refusal is for one of these mistakes, or is the help that was asked for. Without a mistake,
-- it is for the name that is said in place of a profile. Where a profile is said, it lacks a name
-- that the job needs, or a word names no clock.
abbrev pub IsRefusalFor : Kinds → Result Profile Text → Option Job → UsageFault → Type 0
IsRefusalFor kinds said asked NoMemory = Unit {0}
IsRefusalFor kinds said asked (UnknownName name) = (kinds ≡ []) × (said ≡ Err name)
IsRefusalFor kinds said asked NeedsMailbox = (kinds ≡ []) × Lacks extension.Mailbox said asked
IsRefusalFor kinds said asked NeedsDate = (kinds ≡ []) × Lacks extension.Date said asked
IsRefusalFor kinds said asked (BadClock word) = (kinds ≡ []) × HasBadClock said asked word
IsRefusalFor kinds said asked (Usage help text) = (kind : ErrorKind) × IsAmong kind kinds × (help ≡ is_help kind)

-- the fault for an unknown name
abbrev pub NamesUnknown : Text → UsageFault → Type 0
NamesUnknown unknown NoMemory = Unit {0}
NamesUnknown unknown (UnknownName name) = name ≡ unknown
NamesUnknown unknown other = ⊥

-- the fault for a word that names no clock
abbrev pub IsBadClock : Text → UsageFault → Type 0
IsBadClock bad NoMemory = Unit {0}
IsBadClock bad (BadClock word) = word ≡ bad
IsBadClock bad other = ⊥

-- the answer is that clock, or is for the word that names none
abbrev pub SaysClock : Result (Option Clock) Text → Result (Option Clock) UsageFault → Type 0
SaysClock said (Ok clock) = said ≡ Ok clock
SaysClock said (Err NoMemory) = Unit {0}
SaysClock said (Err (BadClock word)) = said ≡ Err word
SaysClock said (Err other) = ⊥

-- The answer has the profile that is said and the clock of the job. The profile has each name that
-- the job needs. Or the answer is for the name that is said in place of a profile, or for a lacking
-- name. Or it is for the word that names no clock.
abbrev pub SaysOf : Result Profile Text → Job → Result CommandLine UsageFault → Type 0
SaysOf said asked (Ok line) = (said ≡ Ok (profile_as line.profile)) × (allows (profile_as line.profile) asked ≡ true) × (clock_said asked ≡ Ok line.clock)
SaysOf said asked (Err NoMemory) = Unit {0}
SaysOf said asked (Err (UnknownName name)) = said ≡ Err name
SaysOf said asked (Err NeedsMailbox) = Lacks extension.Mailbox said (Some asked)
SaysOf said asked (Err NeedsDate) = Lacks extension.Date said (Some asked)
SaysOf said asked (Err (BadClock word)) = HasBadClock said (Some asked) word
SaysOf said asked (Err (Usage help text)) = ⊥
