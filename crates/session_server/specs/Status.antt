-- The status with which the program ends.
use Rattle.std.specs.Prelude.{ℕ}
use Rattle.session_server.specs.declared.status.End.{End}
use Rattle.session_server.specs.declared.status.End.TheVariants.{Session, Test}
use Rattle.session_server.specs.declared.status.SessionEnd.{SessionEnd}
use Rattle.session_server.specs.declared.status.SessionEnd.TheVariants as session
use Rattle.bench.specs.declared.test_end.TestEnd.{TestEnd}
use Rattle.bench.specs.declared.test_end.TestEnd.TheVariants as test

-- 2: the session's octets ended it. 3: a read or a write failed, or too many reads were made. 4:
-- out of memory.
abbrev pub session_status : SessionEnd → ℕ
session_status session.Done = 0
session_status session.Syntax = 2
session_status session.Truncated = 2
session_status session.Read = 3
session_status session.Write = 3
session_status session.NoMemory = 4
session_status session.TurnLimit = 3

-- 1: a script has a fault, or a message an error. 2: too much was given. 3: a write failed. 4: out
-- of memory.
abbrev pub test_status : TestEnd → ℕ
test_status test.Clean = 0
test_status test.Faulty = 1
test_status test.TooLarge = 2
test_status test.Full = 2
test_status test.Write = 3
test_status test.NoMemory = 4

abbrev pub status : End → ℕ
status (Session end) = session_status end
status (Test end) = test_status end
