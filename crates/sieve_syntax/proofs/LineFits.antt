-- A text that isn't too large has no line past 32 bits.
use Rattle.std.proofs.Common.{◌≡◌, ℕ, ◌<◌, ◌≤◌, min, List, length, take, arith}
use Rattle.std.proofs.lemmas.List.Sums.{count_by-le-length}
use Rattle.std.proofs.lemmas.List.{length-take}
use Rattle.sieve_limits.specs.Limits.{text_limit}
use Rattle.sieve_syntax.specs.Token.{line_at, line_feeds}

pub line_fits : (text : List ℕ) (place line : ℕ) → line ≡ line_at text place → length text ≤ text_limit → line < 4294967296
line_fits text place line is within =
    let some : line_feeds (take place text) ≤ length (take place text) = count_by-le-length _ (take place text) in
    let taken : length (take place text) ≡ min place (length text) = length-take place text in
    omega (arith, is, within, some, taken)
