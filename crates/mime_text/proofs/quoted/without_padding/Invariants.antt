use Rattle.std.proofs.Common.{◌≡◌, ◌++◌, length}
use Rattle.mime_text.specs.QuotedPrintable.{without_padding}
use Rattle.mime_text.proofs.quoted.without_padding.Given as goal

abbrev pub invariant-loop-rest : goal.invariant-loop-rest
invariant-loop-rest l = l.kept.items ++ without_padding l.rest ≡ without_padding l.text

abbrev pub decreases-loop-rest : goal.decreases-loop-rest
decreases-loop-rest l = length l.rest
