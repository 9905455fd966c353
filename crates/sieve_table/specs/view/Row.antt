-- The models of the rows of the program's table.
use Rattle.sieve_table.specs.Table.{Row, TagRow}
use Rattle.sieve_table.specs.declared.row.Row as rows
use Rattle.sieve_table.specs.declared.row.TagRow as tag_rows

abbrev pub row_as : rows.Row → Row
row_as r = record {
  name = r.name.now;
  tags = r.tags.now;
  one_of = r.one_of;
  front = r.front;
  slots = r.slots.now;
  tests = r.tests;
  has_block = r.has_block;
  needs = r.needs.now;
}

abbrev pub tag_row_as : tag_rows.TagRow → TagRow
tag_row_as r = record { name = r.name.now; kind = r.kind; takes = r.takes; needs = r.needs }
