use Rattle.std.proofs.Common.{◌≡◌, ◌<◌, length, arith}
use Rattle.std.proofs.lemmas.Bool.{eqb-false, eqb-true}
use Rattle.encoded_characters.proofs.Steps.{bad_step, last_step, octet_step, sequence_step}
use Rattle.encoded_characters.proofs.characters.all_replaced.Goals as goal

pub loop-left-preserved-in-None : goal.loop-left-preserved-in-None
loop-left-preserved-in-None c =
    let left = c.loop-left.left.now in
    let some : 0 < length left = grind (arith, eqb-false) in
    let length_is = c.split_at.ensures.back_len in
    let shorter = c.loop-left.invariant.shorter in
    record {
      shorter = omega arith;
      replaced = octet_step c.loop-left.octets.items c.extend_from_slice.new.self.items left c.split_at.result.1.now c.split_at.result.0.now _ some c.in-None.ensures.is c.split_at.ensures.front c.split_at.ensures.back c.in_ok-extend_from_slice-in-None.ensures.items c.loop-left.invariant.replaced;
    }

pub returns-then-not-branch : goal.returns-then-not-branch
returns-then-not-branch c =
    bad_step c.loop-left.octets.items c.push_sequence.new.octets.items c.loop-left.left.now c.in-Some.sequence.word.now c.in-Some.sequence.inside.now c.in_ok-push_sequence-in-Some.field-0 _ c.if-not-branch.true c.in-Some.ensures.is c.in_ok-push_sequence-in-Some.ensures c.loop-left.invariant.replaced

pub loop-left-preserved : goal.loop-left-preserved
loop-left-preserved c =
    let word = c.in-Some.sequence.word.now in
    let inside = c.in-Some.sequence.inside.now in
    let length_is = c.split_at-in-Some.ensures.back_len in
    let shorter = c.loop-left.invariant.shorter in
    record {
      shorter = omega arith;
      replaced = sequence_step c.loop-left.octets.items c.push_sequence.new.octets.items c.loop-left.left.now c.split_at-in-Some.result.1.now word inside _ c.in_ok-push_sequence-in-Some.field-0 _ c.if-not-branch.false c.in-Some.ensures.is (omega arith) c.split_at-in-Some.ensures.back c.in_ok-push_sequence-in-Some.ensures c.loop-left.invariant.replaced;
    }

pub returns : goal.returns
returns c =
    let ended : length c.loop-left.left.now ≡ 0 = grind (arith, eqb-true) in
    last_step c.loop-left.octets.items c.loop-left.left.now _ ended c.loop-left.invariant.replaced
