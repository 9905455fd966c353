use Rattle.std.proofs.Common.{◌≡◌, ◌++◌, length}
use Rattle.mime_text.specs.QuotedPrintable.{octets_of_pieces, pieces_of}
use Rattle.mime_text.proofs.quoted.unquoted.Given as goal

abbrev pub invariant-loop-left : goal.invariant-loop-left
invariant-loop-left l = l.octets.items ++ octets_of_pieces (pieces_of l.left) ≡ octets_of_pieces (pieces_of l.text)

abbrev pub decreases-loop-left : goal.decreases-loop-left
decreases-loop-left l = length l.left
