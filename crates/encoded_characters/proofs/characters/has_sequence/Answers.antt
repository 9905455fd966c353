use Rattle.std.proofs.Common.{◌≡◌, ◌<◌, length, sym, ◌∙◌, arith}
use Rattle.std.proofs.lemmas.Bool.{eqb-false, eqb-true}
use Rattle.encoded_characters.specs.view.Sequence.{sequence_of}
use Rattle.encoded_characters.proofs.Steps.{none_at_all, none_found, passed_octet, some_found}
use Rattle.encoded_characters.proofs.characters.has_sequence.Goals as goal

pub returns-then-is_some : goal.returns-then-is_some
returns-then-is_some c =
    sym (sym c.loop-left.invariant ∙ some_found sequence_of c.sequence_at.result c.loop-left.left.now c.sequence_at.ensures.is (sym c.is_some.ensures ∙ c.if-is_some.true))

pub loop-left-preserved : goal.loop-left-preserved
loop-left-preserved c =
    let left = c.loop-left.left.now in
    let some : 0 < length left = grind (arith, eqb-false) in
    let none = none_found sequence_of c.sequence_at.result left c.sequence_at.ensures.is (sym c.is_some.ensures ∙ c.if-is_some.false) in
    sym (passed_octet left c.split_at.result.1.now some none c.split_at.ensures.back) ∙ c.loop-left.invariant

pub returns : goal.returns
returns c =
    let ended : length c.loop-left.left.now ≡ 0 = grind (arith, eqb-true) in
    sym (sym c.loop-left.invariant ∙ none_at_all c.loop-left.left.now ended)
