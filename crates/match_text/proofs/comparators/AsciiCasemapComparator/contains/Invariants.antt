use Rattle.std.proofs.Common.{◌-◌, ◌≤◌, length}
use Rattle.match_text.specs.Comparator.{ascii_casemap}
use Rattle.match_text.proofs.Places.{StandsNowhere}
use Rattle.match_text.proofs.comparators.AsciiCasemapComparator.contains.Given as goal

abbrev pub invariant-loop-ahead : goal.invariant-loop-ahead
invariant-loop-ahead l =
    (l.from ≤ length l.value) × StandsNowhere ascii_casemap l.value l.key l.from

abbrev pub decreases-loop-ahead : goal.decreases-loop-ahead
decreases-loop-ahead l = length l.value - l.from
