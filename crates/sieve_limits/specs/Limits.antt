-- The limits of the project, each once. All past one is refused, but for a variable's value.
use Rattle.std.specs.Prelude.{ℕ}

-- SCRIPTS

-- the most octets of a script's text: 2 ^ 20
abbrev pub text_limit : ℕ
text_limit = 1048576

-- the most octets of a script's name
abbrev pub name_limit : ℕ
name_limit = 1024

-- the most scripts of a bench
abbrev pub script_count_limit : ℕ
script_count_limit = 4096

-- the greatest depth of tests: directly in a command it is 1 (RFC 5228, 2.10.7: 15 at least)
abbrev pub test_depth : ℕ
test_depth = 32

-- the most blocks that may stand open at once (RFC 5228, 2.10.7: 15 at least)
abbrev pub block_room : ℕ
block_room = 32

-- MESSAGES

-- the most octets of a message: 2 ^ 24
abbrev pub message_limit : ℕ
message_limit = 16777216

-- the most octets of a message's id
abbrev pub id_limit : ℕ
id_limit = 1024

-- the most octets of the text that a message's verdict is expected to have: 2 ^ 16
abbrev pub expected_limit : ℕ
expected_limit = 65536

-- the most messages of a bench
abbrev pub message_count_limit : ℕ
message_count_limit = 65536

-- DELIVERY

-- the most octets of an address of the envelope
abbrev pub address_limit : ℕ
address_limit = 1024

-- the most octets of the name of a mailbox in which mail is kept or filed
abbrev pub mailbox_limit : ℕ
mailbox_limit = 255

-- the most octets of the list of existing mailboxes: 2 ^ 20
abbrev pub mailboxes_limit : ℕ
mailboxes_limit = 1048576

-- RUNS

-- the most actions of a run (RFC 5228, 2.10.4)
abbrev pub action_limit : ℕ
action_limit = 32

-- the most scripts that may include one another below the main script (RFC 6609, 3.1 and
-- 3.2: two at least)
abbrev pub include_depth : ℕ
include_depth = 10

-- the most includes that a run enters (RFC 6609, 3.1 and 3.2, leave it open)
abbrev pub include_limit : ℕ
include_limit = 256

-- VARIABLES

-- The most octets of a variable's value (RFC 5229, section 6: 4000 characters at least). A
-- longer value is cut.
abbrev pub value_limit : ℕ
value_limit = 4096

-- the most local variables that a script sets (RFC 5229, section 6: 128 at least)
abbrev pub local_limit : ℕ
local_limit = 128

-- the most variables that scripts share and a run sets (RFC 5229, section 6: 128 at least)
abbrev pub global_limit : ℕ
global_limit = 128

-- the greatest number of a match variable (RFC 5229, section 6: 9 at least)
abbrev pub match_limit : ℕ
match_limit = 99

-- SESSIONS

-- the most octets of a session's line, without the line end
abbrev pub line_limit : ℕ
line_limit = 16384
