use Rattle.std.proofs.Common.{◌≡◌, ◌++◌, drop, take}
use Rattle.match_text.specs.Order.{first_digits}
use Rattle.match_text.proofs.number.first_digits.Given as goal

-- the octets so far are digits, after which the digits of the rest go on
abbrev pub invariant-loop-place : goal.invariant-loop-place
invariant-loop-place l = take l.place l.text ++ first_digits (drop l.place l.text) ≡ first_digits l.text
