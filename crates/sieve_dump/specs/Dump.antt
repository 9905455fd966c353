-- How code is printed, a line for each operation.
use Rattle.std.specs.Prelude.{ℕ, true, false, List, [], ◌++◌, Option, Some, None, codes, decimal, slice_get}
use Rattle.sieve_code.specs.Operation.{Operation, set_op, invert_op, test_op, jump_op, jump_if_op, act_op, stop_op, return_op}
use Rattle.sieve_dump.specs.Asks.{ask_text}
use Rattle.sieve_dump.specs.Commands.{leaf_text}

-- the line of a command, after the command
abbrev pub at_line : ℕ → List ℕ
at_line line = codes " @" ++ decimal line

unfoldable pub operation_text : Operation → List ℕ
operation_text (set_op true) = codes "true"
operation_text (set_op false) = codes "false"
operation_text invert_op = codes "not"
operation_text (test_op ask) = ask_text ask
operation_text (jump_op target) = codes "jump " ++ decimal target
operation_text (jump_if_op false target) = codes "jump-if-false " ++ decimal target
operation_text (jump_if_op true target) = codes "jump-if-true " ++ decimal target
operation_text (act_op leaf line) = leaf_text leaf ++ at_line line
operation_text stop_op = codes "stop"
operation_text return_op = codes "return"

-- the line of an operation: its place and then the operation
unfoldable pub line_text : ℕ → Operation → List ℕ
line_text place op = decimal place ++ codes ": " ++ operation_text op ++ codes "\n"

-- the line of the operation at a place of code, or nothing if there is none
abbrev pub line_of : ℕ → Option Operation → List ℕ
line_of place None = []
line_of place (Some op) = line_text place op

abbrev pub line_at : List Operation → ℕ → List ℕ
line_at code place = line_of place (slice_get code place)
