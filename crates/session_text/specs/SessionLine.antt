-- The lines of a session: where they end, and their commands.
use Rattle.std.specs.Prelude.{ℕ, suc, ◌+◌, ◌-◌, ◌*◌, Bool, true, false, ◌&&◌, ◌||◌, ◌==◌, not, nat_le, nat_lt, if◌then◌else◌, List, [], ◌∷◌, length, filter, find, Option, None, Some, unwrap_or, codes, nat_eq}
use Rattle.std.specs.List.{list_all}
use Rattle.std.specs.Option.{option_map, option_and_then}
use lib.Pointwise.{pointwise}
use Rattle.date_text.specs.Clock.{Clock, clock_named}
use Rattle.session_text.specs.contracts.line_kind.LineKind.{enum}
use Rattle.session_text.specs.declared.line_kind.LineKind.{LineKind}
use Rattle.session_text.specs.declared.line_kind.LineKind.TheVariants as kind
use Rattle.sieve_profile.specs.Every.{every}
use Rattle.sieve_profile.specs.Profile.{Profile, has}
use Rattle.sieve_profile.specs.declared.extension.Extension.{Extension}
use Rattle.sieve_profile.specs.declared.extension.Extension.TheVariants as extension
use Rattle.script_names.specs.Name.{location_word}
use Rattle.script_names.specs.declared.location.Location.{Location}
use Rattle.script_names.specs.declared.location.Location.TheVariants.{Personal, Global}
use Rattle.sieve_limits.specs.Limits.{line_limit}
use Rattle.octets.specs.Hex.{hex_octet}
use Rattle.octets.specs.Octet.{octet_of, is_digit, is_printable, is_visible}

-- a line with an octet before it, and the rest
abbrev pub put_before : ℕ → List ℕ × List ℕ → List ℕ × List ℕ
put_before b (line, rest) = (b ∷ line, rest)

-- the octets before the first LF, and those after it, where there is one
abbrev pub cut_line : List ℕ → Option (List ℕ × List ℕ)
cut_line [] = None
cut_line (b ∷ bs) = if b == octet_of "\n" then Some ([], bs) else option_map (put_before b) (cut_line bs)

-- the octets, without a CR at their end
abbrev pub without_cr : List ℕ → List ℕ
without_cr [] = []
without_cr (b ∷ []) = if b == octet_of "\r" then [] else b ∷ []
without_cr (b ∷ c ∷ bs) = b ∷ without_cr (c ∷ bs)

-- A line and the rest after it. A CR before the LF isn't part of it, and the end of the octets ends
-- a line too.
abbrev pub line_from : List ℕ → Option (List ℕ × List ℕ) → List ℕ × List ℕ
line_from stream None = (stream, [])
line_from stream (Some cut) = (without_cr cut.0, cut.1)

unfoldable pub first_line : List ℕ → List ℕ × List ℕ
first_line stream = line_from stream (cut_line stream)

-- the line that ends at an LF, and the rest after it
abbrev pub ended_line : List ℕ × List ℕ → List ℕ × List ℕ
ended_line (line, rest) = (without_cr line, rest)

-- the first line of octets that others may follow, and the rest after it, where its LF is among
-- them
unfoldable pub line_so_far : List ℕ → Option (List ℕ × List ℕ)
line_so_far read = option_map ended_line (cut_line read)

-- Whether octets without an LF are too long for a line, whatever follows. A CR at their end may
-- belong to the line's end.
abbrev pub is_long_so_far : List ℕ → Bool
is_long_so_far read = nat_lt line_limit (length (without_cr read))

-- the place of an octet of a line: outside quotes, inside them, or after a backslash there
pub data Quoting : Type 0 where
  outside : Quoting
  inside : Quoting
  escaped : Quoting

-- the place of the octet after an octet
abbrev pub quoting_after : Quoting → ℕ → Quoting
quoting_after outside b = if b == octet_of "\"" then inside else outside
quoting_after inside b = if b == octet_of "\"" then outside else if b == octet_of "\\" then escaped else inside
quoting_after escaped b = inside

-- whether an octet at such a place is a space between words
abbrev pub is_gap : Quoting → ℕ → Bool
is_gap outside b = b == octet_of " "
is_gap inside b = false
is_gap escaped b = false

abbrev pub grow_first : ℕ → List (List ℕ) → List (List ℕ)
grow_first b [] = (b ∷ []) ∷ []
grow_first b (piece ∷ pieces) = (b ∷ piece) ∷ pieces

-- the pieces between the spaces outside quotes
abbrev pub pieces_from : Quoting → List ℕ → List (List ℕ)
pieces_from quoting [] = [] ∷ []
pieces_from quoting (b ∷ bs) = if is_gap quoting b then [] ∷ pieces_from outside bs else grow_first b (pieces_from (quoting_after quoting b) bs)

-- the number of octets before the first such space
abbrev pub piece_length : Quoting → List ℕ → ℕ
piece_length quoting [] = 0
piece_length quoting (b ∷ bs) = if is_gap quoting b then 0 else suc (piece_length (quoting_after quoting b) bs)

abbrev pub is_word : List ℕ → Bool
is_word [] = false
is_word (b ∷ bs) = true

-- the words of a line
unfoldable pub line_words : List ℕ → List (List ℕ)
line_words line = filter is_word (pieces_from outside line)

-- an octet of a bare word: a visible one of ASCII, without the quote and the backslash
abbrev pub is_bare : ℕ → Bool
is_bare b = is_visible b && not (b == octet_of "\"") && not (b == octet_of "\\")

-- an octet before others
abbrev pub after : ℕ → Option (List ℕ) → Option (List ℕ)
after b rest = option_map (λ bs. b ∷ bs) rest

abbrev pub nothing_more : List ℕ → Option (List ℕ)
nothing_more [] = Some []
nothing_more (b ∷ bs) = None

unfoldable mutual
  -- The octets that a quoted word stands for, after its first quote. The next quote ends it, and
  -- nothing may follow.
  pub quoted_value : List ℕ → Option (List ℕ)
  quoted_value [] = None
  quoted_value (b ∷ bs) = if b == octet_of "\"" then nothing_more bs else if b == octet_of "\\" then escaped_value bs else after b (quoted_value bs)

  -- the octets after a backslash: a quote, a backslash, or `x` and two hexadecimal digits
  pub escaped_value : List ℕ → Option (List ℕ)
  escaped_value [] = None
  escaped_value (b ∷ bs) = if b == octet_of "\"" || b == octet_of "\\" then after b (quoted_value bs) else if b == octet_of "x" then hex_octets bs else None

  pub hex_octets : List ℕ → Option (List ℕ)
  hex_octets [] = None
  hex_octets (high ∷ []) = None
  hex_octets (high ∷ low ∷ bs) = option_and_then (λ octet. after octet (quoted_value bs)) (hex_octet high low)

-- the octets that a word stands for: a bare word for its own
unfoldable pub word_value : List ℕ → Option (List ℕ)
word_value [] = None
word_value (b ∷ bs) = if b == octet_of "\"" then quoted_value bs else if list_all is_bare (b ∷ bs) then Some (b ∷ bs) else None

-- the command of a line
pub data SessionCommand : Type 0 where
  nothing : SessionCommand
  script : (location : Location) (name : List ℕ) (count : ℕ) → SessionCommand
  message : (id : List ℕ) (count : ℕ) → SessionCommand
  main : (location : Location) (name : List ℕ) → SessionCommand
  no_main : SessionCommand
  rename : (location : Location) (name : List ℕ) (new_location : Location) (new_name : List ℕ) → SessionCommand
  drop_script : (location : Location) (name : List ℕ) → SessionCommand
  drop_message : (id : List ℕ) → SessionCommand
  envelope : (from to : List ℕ) → SessionCommand
  mailbox : (box : List ℕ) → SessionCommand
  report : SessionCommand
  dump : (location : Location) (name : List ℕ) → SessionCommand
  expect : (id : List ℕ) (count : ℕ) → SessionCommand
  no_expect : (id : List ℕ) → SessionCommand
  mailboxes : (count : ℕ) → SessionCommand
  message_envelope : (id from to : List ℕ) → SessionCommand
  no_message_envelope : (id : List ℕ) → SessionCommand
  clock : (time : Clock) → SessionCommand
  no_clock : SessionCommand

-- whether a word is this text
unfoldable pub is_text : List ℕ → List ℕ → Bool
is_text text word = pointwise nat_eq word text

abbrev pub location_of : List ℕ → Option Location
location_of word = if is_text (location_word Personal) word then Some Personal else if is_text (location_word Global) word then Some Global else None

-- the value of digits, after digits of that value
abbrev pub value_after : ℕ → List ℕ → Option ℕ
value_after n [] = Some n
value_after n (b ∷ bs) = if is_digit b then value_after (10 * n + (b - octet_of "0")) bs else None

-- a count is one to nine digits
abbrev pub count_of : List ℕ → Option ℕ
count_of word = if nat_le 1 (length word) && nat_le (length word) 9 then value_after 0 word else None

-- a count that is the last word
abbrev pub last_count : List (List ℕ) → Option ℕ
last_count [] = None
last_count (count ∷ []) = count_of count
last_count (count ∷ more ∷ rest) = None

-- a location and a name
abbrev pub named : List ℕ → List ℕ → Option (Location × List ℕ)
named location name = option_and_then (λ p. option_map (λ n. (p, n)) (word_value name)) (location_of location)

-- a location and a name that are the last words
abbrev pub last_name : List (List ℕ) → Option (Location × List ℕ)
last_name (location ∷ name ∷ []) = named location name
last_name other = None

-- the value of the last word
abbrev pub last_value : List (List ℕ) → Option (List ℕ)
last_value [] = None
last_value (word ∷ []) = word_value word
last_value (word ∷ more ∷ rest) = None

abbrev pub script_command : List (List ℕ) → Option SessionCommand
script_command [] = None
script_command (location ∷ []) = None
script_command (location ∷ name ∷ words) = option_and_then (λ n. option_map (λ count. script n.0 n.1 count) (last_count words)) (named location name)

abbrev pub message_command : List (List ℕ) → Option SessionCommand
message_command [] = None
message_command (id ∷ words) = option_and_then (λ i. option_map (λ count. message i count) (last_count words)) (word_value id)

abbrev pub expect_command : List (List ℕ) → Option SessionCommand
expect_command [] = None
expect_command (id ∷ words) = option_and_then (λ i. option_map (λ count. expect i count) (last_count words)) (word_value id)

abbrev pub rename_command : List (List ℕ) → Option SessionCommand
rename_command [] = None
rename_command (location ∷ []) = None
rename_command (location ∷ name ∷ words) = option_and_then (λ from. option_map (λ to. rename from.0 from.1 to.0 to.1) (last_name words)) (named location name)

abbrev pub envelope_command : List (List ℕ) → Option SessionCommand
envelope_command [] = None
envelope_command (from ∷ words) = option_and_then (λ f. option_map (λ t. envelope f t) (last_value words)) (word_value from)

abbrev pub main_command : List (List ℕ) → Option SessionCommand
main_command words = option_map (λ n. main n.0 n.1) (last_name words)

abbrev pub drop_script_command : List (List ℕ) → Option SessionCommand
drop_script_command words = option_map (λ n. drop_script n.0 n.1) (last_name words)

abbrev pub dump_command : List (List ℕ) → Option SessionCommand
dump_command words = option_map (λ n. dump n.0 n.1) (last_name words)

abbrev pub message_envelope_command : List (List ℕ) → Option SessionCommand
message_envelope_command [] = None
message_envelope_command (id ∷ []) = None
message_envelope_command (id ∷ from ∷ words) =
    option_and_then (λ i. option_and_then (λ f. option_map (λ t. message_envelope i f t) (last_value words)) (word_value from)) (word_value id)

abbrev pub alone : SessionCommand → List (List ℕ) → Option SessionCommand
alone command [] = Some command
alone command (more ∷ rest) = None

-- a clock that is the last two words, both bare: its seconds in digits, and its zone
abbrev pub last_clock : List (List ℕ) → Option Clock
last_clock (seconds ∷ zone ∷ []) = clock_named seconds zone
last_clock other = None

-- the first words of lines
abbrev pub line_word : LineKind → List ℕ
line_word kind.Script = codes "script"
line_word kind.Message = codes "message"
line_word kind.Main = codes "main"
line_word kind.NoMain = codes "no-main"
line_word kind.Rename = codes "rename"
line_word kind.DropScript = codes "drop-script"
line_word kind.DropMessage = codes "drop-message"
line_word kind.Envelope = codes "envelope"
line_word kind.Mailbox = codes "mailbox"
line_word kind.Report = codes "report"
line_word kind.Dump = codes "dump"
line_word kind.Expect = codes "expect"
line_word kind.NoExpect = codes "no-expect"
line_word kind.Mailboxes = codes "mailboxes"
line_word kind.MessageEnvelope = codes "message-envelope"
line_word kind.NoMessageEnvelope = codes "no-message-envelope"
line_word kind.Clock = codes "clock"
line_word kind.NoClock = codes "no-clock"

abbrev pub is_kind : List ℕ → LineKind → Bool
is_kind word kind = pointwise nat_eq (line_word kind) word

abbrev pub line_kind : List ℕ → Option LineKind
line_kind word = find (is_kind word) (every enum tt)

-- the command of a kind of line, and the words after its first
abbrev pub command_of_kind : LineKind → List (List ℕ) → Option SessionCommand
command_of_kind kind.Script words = script_command words
command_of_kind kind.Message words = message_command words
command_of_kind kind.Main words = main_command words
command_of_kind kind.NoMain words = alone no_main words
command_of_kind kind.Rename words = rename_command words
command_of_kind kind.DropScript words = drop_script_command words
command_of_kind kind.DropMessage words = option_map (λ id. drop_message id) (last_value words)
command_of_kind kind.Envelope words = envelope_command words
command_of_kind kind.Mailbox words = option_map (λ box. mailbox box) (last_value words)
command_of_kind kind.Report words = alone report words
command_of_kind kind.Dump words = dump_command words
command_of_kind kind.Expect words = expect_command words
command_of_kind kind.NoExpect words = option_map (λ id. no_expect id) (last_value words)
command_of_kind kind.Mailboxes words = option_map (λ count. mailboxes count) (last_count words)
command_of_kind kind.MessageEnvelope words = message_envelope_command words
command_of_kind kind.NoMessageEnvelope words = option_map (λ id. no_message_envelope id) (last_value words)
command_of_kind kind.Clock words = option_map (λ time. clock time) (last_clock words)
command_of_kind kind.NoClock words = alone no_clock words

-- the command of a first word, and the words after it
abbrev pub command_by : List ℕ → List (List ℕ) → Option SessionCommand
command_by word words = option_and_then (λ kind. command_of_kind kind words) (line_kind word)

-- the command of some words
abbrev pub command_of_words : List (List ℕ) → Option SessionCommand
command_of_words [] = Some nothing
command_of_words (word ∷ words) = command_by word words

-- The command of a line by its words, whichever extensions the profile has. The line has visible
-- octets of ASCII and spaces alone.
unfoldable pub command_in : List ℕ → Option SessionCommand
command_in line = if list_all is_printable line then command_of_words (line_words line) else None

-- COMMANDS THAT NEED AN EXTENSION

-- the extension that a command needs; without one the command is always known
abbrev pub extension_of : SessionCommand → Option Extension
extension_of (mailboxes count) = Some extension.Mailbox
extension_of (message_envelope id from to) = Some extension.Envelopes
extension_of (no_message_envelope id) = Some extension.Envelopes
extension_of (clock time) = Some extension.Date
extension_of no_clock = Some extension.Date
extension_of _ = None

abbrev pub is_there : Profile → SessionCommand → Bool
is_there profile command = unwrap_or (option_map (has profile) (extension_of command)) true

abbrev pub where_there : Profile → SessionCommand → Option SessionCommand
where_there profile command = if is_there profile command then Some command else None

-- the command of a line, if it is known under a profile
unfoldable pub command_of_line : Profile → List ℕ → Option SessionCommand
command_of_line profile line = option_and_then (where_there profile) (command_in line)
