-- The models of the program's tasks.
use Rattle.std.specs.Prelude.{◌≡◌, ℕ, List, Option, Some, None, Result, true}
use Rattle.sieve_limits.specs.Limits.{expected_limit, mailboxes_limit, text_limit, message_limit}
use Rattle.bench.specs.Bench.{BenchState}
use Rattle.bench.specs.Content.{Edit, put_script, put_message, set_for_all, set_for_one}
use Rattle.bench.specs.declared.setting.MessageSetting.TheVariants as own
use Rattle.bench.specs.declared.setting.Setting.TheVariants as common
use Rattle.bench.specs.declared.fault.EditFault.{EditFault}
use Rattle.session_server.specs.Session.{Demand, asks_question, asks_put, asks_edit, asks_report, question_takes_memory, takes_memory}
use Rattle.session_server.specs.view.Progress.{Attempts}
use Rattle.session_server.specs.declared.task.Subject.{Subject}
use Rattle.session_server.specs.declared.task.Subject.TheVariants as subjects
use Rattle.session_server.specs.declared.task.Task.{Task}
use Rattle.session_server.specs.declared.task.Task.TheVariants as tasks

-- the edit that puts octets at a subject
abbrev pub edit_of : Subject → List ℕ → Edit
edit_of (subjects.Script name) octets = put_script name octets
edit_of (subjects.Message id) octets = put_message id octets
edit_of (subjects.Expected id) octets = set_for_one id (own.Expected (Some octets))
edit_of subjects.Mailboxes octets = set_for_all (common.Mailboxes octets)

-- the most octets that may be put at a subject
abbrev pub limit_of : Subject → ℕ
limit_of (subjects.Script name) = text_limit
limit_of (subjects.Message id) = message_limit
limit_of (subjects.Expected id) = expected_limit
limit_of subjects.Mailboxes = mailboxes_limit

-- `count` octets follow a demand, and it may be out of memory
abbrev pub IsFollowedBy : ℕ → Option Demand → Type 0
IsFollowedBy count (Some (asks_question question)) = (count ≡ 0) × (question_takes_memory question ≡ true)
IsFollowedBy count (Some (asks_put n edit)) = (n ≡ count) × ((octets : List ℕ) → takes_memory (edit octets) ≡ true)
IsFollowedBy count other = ⊥

-- the edit that is asked for was tried
abbrev pub IsTried : Option Demand → Result Unit EditFault → BenchState → BenchState → Type 0
IsTried (Some (asks_edit edit)) outcome old new = Attempts edit outcome old new
IsTried other outcome old new = ⊥

-- The task is the demand of a line, and nothing is done of it yet. Or it is the edit that was
-- tried.
abbrev pub Tasks : Task → Option Demand → BenchState → BenchState → Type 0
Tasks (tasks.Ask question) ask old new = (ask ≡ Some (asks_question question)) × (new ≡ old)
Tasks (tasks.Put subject count) ask old new = (ask ≡ Some (asks_put count (λ octets. edit_of subject octets))) × (new ≡ old)
Tasks (tasks.Made outcome) ask old new = IsTried ask outcome old new
Tasks tasks.Report ask old new = (ask ≡ Some asks_report) × (new ≡ old)
Tasks (tasks.Forgotten count) ask old new = IsFollowedBy count ask × (new ≡ old)
Tasks tasks.Unreadable ask old new = (ask ≡ None) × (new ≡ old)
