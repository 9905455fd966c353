use Rattle.std.proofs.Common.{◌<◌, subst}
use Rattle.devices.specs.Writers.{Wrote, WroteFront}
use Rattle.devices.proofs.Writing.{writes_failed, wrote_both, wrote_items_then_front}
use Rattle.sieve_verdict.specs.Lines.{spaced_word}
use Rattle.sieve_verdict.proofs.Pieces.{text_there, texts_more}
use Rattle.sieve_verdict.proofs.lines.write_flags.Goals as goal

pub returns-in_err-write_spaced : goal.returns-in_err-write_spaced
returns-in_err-write_spaced g c =
    let flags = c.args.flags.now in
    writes_failed _ _ _ _ _ _ c.from_residual.ensures.0
    (wrote_items_then_front _ _ _ _ _ spaced_word flags c.loop-i.i c.get.result.now (subst (λ n. c.loop-i.i < n) c.len-i-end.ensures.length c.loop-i-test.true) c.loop-i.invariant
    (subst (WroteFront _ _ _ _) (text_there flags c.loop-i.i c.get.result.now c.get.ensures) c.in_err-write_spaced.ensures))

pub loop-i-preserved : goal.loop-i-preserved
loop-i-preserved g c =
    let flags = c.args.flags.now in
    subst (Wrote _ _ _ _) (texts_more flags c.loop-i.i c.get.result.now (subst (λ n. c.loop-i.i < n) c.len-i-end.ensures.length c.loop-i-test.true) c.get.ensures)
    (wrote_both _ _ _ _ _ _ _ c.loop-i.invariant c.in_ok-write_spaced.ensures)
