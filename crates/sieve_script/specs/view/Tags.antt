-- The program's tags among arguments.
use Rattle.std.specs.Prelude.{None, slice_index_or}
use denote.Enum.Declared.{tag_of}
use Rattle.sieve_script.specs.Given.{Tags}
use Rattle.sieve_script.specs.declared.tags.Tags as tags
use Rattle.sieve_table.specs.contracts.row.TagKind.{the_type}

unfoldable pub tags_as : tags.Tags → Tags
tags_as t = λ kind. slice_index_or t.found (tag_of the_type kind) None
