use Rattle.std.proofs.Common.{ap}
use Rattle.bench.specs.Report.{report_text}
use Rattle.bench.proofs.Rebuilt.{rebuilt, rebuilt_content}
use Rattle.bench.proofs.laws.a_content_is_made_anew.Goals as goal

pub returns-clause-made : goal.returns-clause-made
returns-clause-made c = rebuilt

pub returns-clause-content : goal.returns-clause-content
returns-clause-content c = rebuilt_content

pub returns-clause-report : goal.returns-clause-report
returns-clause-report c = λ profile edits. ap report_text (rebuilt_content profile edits)
