use Rattle.std.proofs.Common.{◌≡◌, ℕ, Some, List, length, take, min, sym, ap, ◌∙◌, arith}
use Rattle.sieve_conditions.specs.Matching.{first_some, match_of}
use Rattle.sieve_conditions.proofs.Keyed.{best_stays, better_found, none_so_far, take_min}
use Rattle.packed_strings.proofs.Joining.{get_map}
use Rattle.sieve_conditions.proofs.flag_values.better.Goals as goal

pub returns-in-Some : goal.returns-in-Some
returns-in-Some c =
    let comparison = c.args.matcher.now.comparison in
    let key = c.args.key.now in
    let flags = c.args.flags.now in
    better_found comparison key flags c.args.so_far c.loop-i.i c.in-Some.values c.loop-i.invariant
    (get_map (λ (flag : List ℕ). match_of comparison flag key) flags c.loop-i.i c.get.result.now c.get.ensures ∙ ap Some (sym c.in_ok-values.ensures ∙ c.in-Some.is))
    (omega (arith, c.loop-i-test.true, c.min-i-end.ensures))

pub loop-i-preserved : goal.loop-i-preserved
loop-i-preserved c =
    let comparison = c.args.matcher.now.comparison in
    let key = c.args.key.now in
    let flags = c.args.flags.now in
    none_so_far (λ (flag : List ℕ). match_of comparison flag key) flags c.loop-i.i c.loop-i.invariant
    (get_map (λ (flag : List ℕ). match_of comparison flag key) flags c.loop-i.i c.get.result.now c.get.ensures ∙ ap Some (sym c.in_ok-values.ensures ∙ c.in_default.is))

pub returns : goal.returns
returns c =
    let comparison = c.args.matcher.now.comparison in
    let key = c.args.key.now in
    let flags = c.args.flags.now in
    let at_end : c.loop-i.i ≡ min c.args.so_far.before (length flags) = omega (arith, c.loop-i-test.false, c.loop-i.auto, c.min-i-end.ensures, c.len.ensures.length) in
    best_stays comparison key flags c.args.so_far
    (ap (first_some (λ (flag : List ℕ). match_of comparison flag key)) (sym (take_min c.args.so_far.before flags) ∙ ap (λ (n : ℕ). take n flags) (sym at_end)) ∙ c.loop-i.invariant)
