use Rattle.std.proofs.Common.{drop, ◌+◌, sym, ap, ◌∙◌, arith}
use Rattle.structured_text.specs.Structure.{is_closed}
use Rattle.structured_text.proofs.Closing.{closed_end, closed_step}
use Rattle.structured_text.proofs.state.is_closed.Goals as goal

pub loop-octet-preserved : goal.loop-octet-preserved
loop-octet-preserved c =
    let text = c.args.text.now in
    let i = c.loop-octet.octet-index in
    record {
      depth = omega arith;
      same = ap (λ state. is_closed c.args.brackets state (drop (i + 1) text)) c.after-state.ensures.is ∙ sym (closed_step c.args.brackets c.loop-octet.state text i c.loop-octet-test.true) ∙ c.loop-octet.invariant.same;
    }

pub returns : goal.returns
returns c =
    c.is_outside.ensures ∙ sym (closed_end c.args.brackets c.loop-octet.state c.args.text.now c.loop-octet.octet-index (omega arith)) ∙ c.loop-octet.invariant.same
