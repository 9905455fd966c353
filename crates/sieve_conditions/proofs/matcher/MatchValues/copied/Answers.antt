use Rattle.std.proofs.Common.{◌++◌, ◌+◌, [], drop, ap, ◌∙◌, arith}
use Rattle.sieve_conditions.proofs.Copying.{one_further}
use Rattle.sieve_conditions.proofs.matcher.MatchValues.copied.Goals as goal

pub loop-k-preserved : goal.loop-k-preserved
loop-k-preserved c =
    let all = c.args.captures.now in
    ap (λ items. items ++ drop (c.loop-k.k + 1 + 1) all) c.in_ok-push-2.ensures.items
    ∙ one_further c.loop-k.texts.items all (c.loop-k.k + 1) c.in_ok-copied-2.field-0 [] c.loop-k.invariant (omega (arith, c.loop-k-test.true, c.count-k-end.ensures)) (c.in_ok-copied-2.ensures ∙ c.get-in-loop-k.ensures)
