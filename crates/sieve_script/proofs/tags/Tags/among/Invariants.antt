use Rattle.std.proofs.Common.{◌≡◌, drop}
use Rattle.sieve_script.specs.Given.{first_or, tag_given}
use Rattle.sieve_script.specs.view.Tags.{tags_as}
use Rattle.sieve_table.specs.declared.row.TagKind.{TagKind}
use Rattle.sieve_script.proofs.tags.Tags.among.Given as goal

-- Of each kind, the tag found so far is the first of all. Where none was found, the first among the
-- labels that are left is.
abbrev pub invariant-loop-label : goal.invariant-loop-label
invariant-loop-label l = (k : TagKind) → first_or (tags_as l.tags k) (tag_given k (drop l.label-index l.labels)) ≡ tag_given k l.labels
