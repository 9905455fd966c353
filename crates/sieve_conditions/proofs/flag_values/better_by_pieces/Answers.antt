use Rattle.std.proofs.Common.{◌∙◌, ◌++◌, ℕ, List, ap, sym}
use Rattle.std.proofs.lemmas.Result.{IfOk-weaker}
use Rattle.flag_lists.specs.Flags.{filled_pieces}
use Rattle.sieve_conditions.specs.view.FlagTests.{best_of}
use Rattle.sieve_conditions.proofs.Keyed.{keys_of_empty, keys_of_filled}
use Rattle.sieve_conditions.proofs.flag_values.better_by_pieces.Goals as goal

pub returns-then-is_empty : goal.returns-then-is_empty
returns-then-is_empty c =
    let best = best_of c.args.matcher.now.comparison c.args.flags.now c.args.so_far in
    IfOk-weaker c.better.result _ _ (λ next so rest. so rest ∙ ap (λ (keys : List (List ℕ)). best (keys ++ rest)) (sym (keys_of_empty c.args.key.now (sym c.is_empty.ensures ∙ c.if-is_empty.true)))) c.better.ensures

pub loop-piece-init : goal.loop-piece-init
loop-piece-init c rest =
    ap (λ (keys : List (List ℕ)). best_of c.args.matcher.now.comparison c.args.flags.now c.args.so_far (keys ++ rest)) (keys_of_filled c.args.key.now (sym c.is_empty.ensures ∙ c.if-is_empty.false))

pub loop-piece-preserved : goal.loop-piece-preserved
loop-piece-preserved c rest =
    let best = best_of c.args.matcher.now.comparison c.args.flags.now c.loop-piece.best in
    c.in_ok-best.ensures (filled_pieces c.in-Some.after.now ++ rest) ∙ ap (λ (keys : List (List ℕ)). best (keys ++ rest)) (sym c.in-Some.ensures.some) ∙ c.loop-piece.invariant rest

pub returns : goal.returns
returns c rest =
    let best = best_of c.args.matcher.now.comparison c.args.flags.now c.loop-piece.best in
    ap (λ (keys : List (List ℕ)). best (keys ++ rest)) (sym c.in_default.ensures.none) ∙ c.loop-piece.invariant rest
