-- The test of a message: the edits that a job makes of a new bench, and how its report ends.
use Rattle.std.specs.Prelude.{◌≡◌, ◌⊎◌, ℕ, Bool, true, false, ◌&&◌, ◌==◌, if◌then◌else◌, List, [], ◌∷◌, ◌++◌, map, fold, Some, Result, Ok, Err, IsOkAnd}
use Rattle.std.specs.List.{list_all}
use Rattle.sieve_check.specs.Judgement.{Judgement, judgement_of, sound, faulty}
use Rattle.sieve_delivery.specs.declared.envelope.Envelope.{Envelope}
use Rattle.sieve_run.specs.Meter.{next_run}
use Rattle.bench.specs.Content.{Content, Edit, after, new_content, put_script, put_message, set_for_all}
use Rattle.bench.specs.Edits.{envelope_edits}
use Rattle.bench.specs.Report.{JudgedMessage, Site, error_count, report_text, site_of, verdicts}
use Rattle.bench.specs.declared.fault.EditFault.{EditFault}
use Rattle.bench.specs.declared.fault.EditFault.TheVariants as edit
use Rattle.bench.specs.declared.setting.Setting.TheVariants as common
use Rattle.bench.specs.declared.test_end.TestEnd.{TestEnd}
use Rattle.bench.specs.declared.test_end.TestEnd.TheVariants as test
use Rattle.bench.specs.declared.test_job.TestJob.{TestJob}
use Rattle.bench.specs.declared.test_job.TestScript.{TestScript}

-- THE EDITS OF A JOB

-- the edit that a script of a job is
abbrev pub put_of : TestScript → Edit
put_of script = put_script script.name script.text

-- the envelope of a job
abbrev pub envelope_of : TestJob → Envelope
envelope_of job = record { from = job.from; to = job.to; mailbox = job.mailbox; mailboxes = job.mailboxes; clock = job.clock }

-- the edits of a job, in the order in which they are made
abbrev pub edits_of : TestJob → List Edit
edits_of job = envelope_edits (envelope_of job) ++ (map put_of job.scripts.items ++ set_for_all (common.Main (Some job.main)) ∷ put_message job.id job.message ∷ [])

-- the result of one edit more, unless one before it was refused
abbrev pub then_edit : Result Content EditFault → Edit → Result Content EditFault
then_edit (Ok content) edit = after content edit
then_edit (Err refusal) edit = Err refusal

-- the content after edits in turn, or the refusal of the first one that is refused
abbrev pub after_all : Content → List Edit → Result Content EditFault
after_all content edits = fold then_edit (Ok content) edits

-- the content after the edits of a job on a new bench of its profile, or the first refusal
unfoldable pub made_by : TestJob → Result Content EditFault
made_by job = after_all (new_content job.profile) (edits_of job)

-- HOW ITS REPORT ENDS

-- whether a script's line of a report says `ok`
abbrev pub is_sound : Judgement → Bool
is_sound (sound tree) = true
is_sound (faulty line kind) = false

-- Whether a report with these verdicts has nothing to complain of. Each script's line says `ok`,
-- and no message has an error.
abbrev pub is_clean_with : Site → List JudgedMessage → Bool
is_clean_with site judged = list_all (λ e. is_sound (judgement_of site.profile e.1)) site.scripts && (error_count judged == 0)

-- whether the report of a content has nothing to complain of
unfoldable pub is_clean : Content → Bool
is_clean content = is_clean_with (site_of content) (verdicts (site_of content) content.messages)

-- how a test ends whose report is written
abbrev pub test_end_of : Content → TestEnd
test_end_of content = if is_clean content then test.Clean else test.Faulty

-- How a test ends. `whole` and `front` say that all or a front of a text was written, and `nothing`
-- that nothing was. `Clean` and `Faulty`: the job's edits make a content, its whole report was
-- written, and this end is due. `TooLarge` and `Full`: this is the first refusal of the edits, and
-- nothing was written. `Write`: a front of the report was written. `NoMemory`: nothing was written.
abbrev pub TestEnds : TestEnd → TestJob → (List ℕ → Type 0) → (List ℕ → Type 0) → Type 0 → Type 0
TestEnds test.Clean job whole front nothing = IsOkAnd (made_by job) (λ content. (test_end_of content ≡ test.Clean) × whole (report_text content))
TestEnds test.Faulty job whole front nothing = IsOkAnd (made_by job) (λ content. (test_end_of content ≡ test.Faulty) × whole (report_text content))
TestEnds test.TooLarge job whole front nothing = (made_by job ≡ Err edit.TooLarge) × nothing
TestEnds test.Full job whole front nothing = (made_by job ≡ Err edit.Full) × nothing
TestEnds test.Write job whole front nothing = IsOkAnd (made_by job) (λ content. front (report_text content))
TestEnds test.NoMemory job whole front nothing = nothing

-- The number of runs of a job by its end: one for a report, and none for a refused edit. Out of
-- memory, there was no run, or one where none of the job's edits has a refusal.
abbrev pub TestRuns : TestEnd → TestJob → ℕ → ℕ → Type 0
TestRuns test.Clean job old new = new ≡ next_run old
TestRuns test.Faulty job old new = new ≡ next_run old
TestRuns test.TooLarge job old new = new ≡ old
TestRuns test.Full job old new = new ≡ old
TestRuns test.Write job old new = new ≡ next_run old
TestRuns test.NoMemory job old new = (new ≡ old) ⊎ IsOkAnd (made_by job) (λ content. new ≡ next_run old)
