use Rattle.std.proofs.Common.{◌∙◌, ap, arith, sym}
use Rattle.sieve_variables.specs.Value.{text_value}
use Rattle.sieve_conditions.specs.view.FieldTests.{cut_key}
use Rattle.sieve_conditions.specs.view.FlagTests.{best_of}
use Rattle.sieve_conditions.proofs.Keyed.{best_at_end, no_more_keys}
use Rattle.sieve_conditions.proofs.flag_values.find_in_each.Goals as goal

pub returns : goal.returns
returns c =
    let matcher = c.args.matcher.now in
    let best = c.loop-i.best in
    sym (best_at_end matcher.comparison c.args.flags.now best)
    ∙ ap (best_of matcher.comparison c.args.flags.now best)
    (no_more_keys (cut_key matcher.are_cut) (text_value matcher.values.now) matcher.keys.now c.loop-i.i (omega (arith, c.loop-i-test.false, c.len-i-end.ensures)))
    ∙ c.loop-i.invariant
