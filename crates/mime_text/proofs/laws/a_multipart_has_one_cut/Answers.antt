use Rattle.mime_text.proofs.Cutting.{is_cut, only_cut}
use Rattle.mime_text.proofs.laws.a_multipart_has_one_cut.Goals as goal

pub returns-clause-exists : goal.returns-clause-exists
returns-clause-exists c = is_cut

pub returns-clause-only : goal.returns-clause-only
returns-clause-only c = only_cut
