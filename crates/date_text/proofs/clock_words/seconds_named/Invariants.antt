use Rattle.std.proofs.Common.{◌≡◌, ◌≤◌, drop}
use Rattle.date_text.specs.Clock.{last_second, number_after}
use Rattle.date_text.specs.Number.{up_to}
use Rattle.date_text.proofs.clock_words.seconds_named.Given as goal

-- the rest of the digits makes of the seconds so far the number that all digits make of 0
abbrev pub invariant-loop-octet : goal.invariant-loop-octet
invariant-loop-octet l = record {
  small : l.seconds ≤ last_second;
  same : up_to last_second (number_after l.seconds (drop l.octet-index l.digits)) ≡ up_to last_second (number_after 0 l.digits);
}
