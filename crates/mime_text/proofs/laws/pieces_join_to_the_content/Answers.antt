use Rattle.std.proofs.Common.{ap, ◌∙◌}
use Rattle.std.specs.List.{concat}
use Rattle.mime_text.specs.Lines.{ended_lines}
use Rattle.mime_text.proofs.Cutting.{is_cut}
use Rattle.mime_text.proofs.Stretches.{joined_lines}
use Rattle.mime_text.proofs.laws.pieces_join_to_the_content.Goals as goal

pub returns : goal.returns
returns c = λ boundary content. ap concat (is_cut boundary (ended_lines content)).joined ∙ joined_lines content
