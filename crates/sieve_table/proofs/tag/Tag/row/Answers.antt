use Rattle.std.proofs.Common.{◌∙◌, ap, sym}
use Rattle.sieve_table.specs.Table.{tag_row}
use Rattle.sieve_table.proofs.tag.Tag.row.Goals as goal

pub returns-in-Contains : goal.returns-in-Contains
returns-in-Contains c = c.bare_tag-in-Contains.ensures ∙ ap tag_row (sym c.in-Contains.is)

pub returns-in-Over : goal.returns-in-Over
returns-in-Over c = c.bare_tag-in-Over.ensures ∙ ap tag_row (sym c.in-Over.is)
