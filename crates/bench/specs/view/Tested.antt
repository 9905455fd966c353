-- How the report of a test ends.
use Rattle.std.specs.Prelude.{◌≡◌, ℕ, List}
use Rattle.bench.specs.Content.{Content}
use Rattle.bench.specs.Report.{report_text}
use Rattle.bench.specs.Test.{test_end_of}
use Rattle.bench.specs.declared.test_end.TestEnd.{TestEnd}
use Rattle.bench.specs.declared.test_end.TestEnd.TheVariants as test

-- The report of a content was written, and this is the due end. Or a front of it was written, or it
-- was out of memory. No edit is refused any more.
abbrev pub ReportEnds : TestEnd → Content → (List ℕ → Type 0) → (List ℕ → Type 0) → Type 0 → Type 0
ReportEnds test.Clean content whole front nothing = (test_end_of content ≡ test.Clean) × whole (report_text content)
ReportEnds test.Faulty content whole front nothing = (test_end_of content ≡ test.Faulty) × whole (report_text content)
ReportEnds test.TooLarge content whole front nothing = ⊥
ReportEnds test.Full content whole front nothing = ⊥
ReportEnds test.Write content whole front nothing = front (report_text content)
ReportEnds test.NoMemory content whole front nothing = nothing
