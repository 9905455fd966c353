use Rattle.std.proofs.Common.{◌≡◌, ◌≤◌, drop}
use Rattle.encoded_characters.specs.Value.{number_from}
use Rattle.encoded_characters.proofs.value.character.Given as goal

-- The number is within the limit. The rest of the digits makes of it the number of all digits.
abbrev pub invariant-loop-digit : goal.invariant-loop-digit
invariant-loop-digit l = record {
  within : l.number ≤ 0x10FFFF;
  number : number_from l.number (drop l.digit-index l.digits) ≡ number_from 0 l.digits;
}
