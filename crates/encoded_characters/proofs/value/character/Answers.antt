use Rattle.std.proofs.Common.{sym, ◌∙◌, arith}
use Rattle.encoded_characters.proofs.Values.{character_past}
use Rattle.encoded_characters.proofs.value.character.Goals as goal

pub returns-then-number-gt-MAX_CHARACTER : goal.returns-then-number-gt-MAX_CHARACTER
returns-then-number-gt-MAX_CHARACTER c =
    character_past c.args.digits.now c.loop-digit.digit-index c.loop-digit.number c.in_ok-value.value _ c.loop-digit-test.true (sym c.hex_octet.ensures ∙ c.in_ok-value.was) (omega arith) c.if-number-gt-MAX_CHARACTER.true c.loop-digit.invariant.number
