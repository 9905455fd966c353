use Rattle.std.proofs.Common.{◌≡◌, ◌∙◌, ap, arith, subst, sym, take, true}
use Rattle.std.specs.List.{All}
use Rattle.flag_lists.specs.Flags.{has_flag}
use Rattle.flag_lists.proofs.FlagLists.{one_missing, there_more}
use Rattle.flag_lists.proofs.flags.FlagList.first_missing.Goals as goal

pub loop-place-init : goal.loop-place-init
loop-place-init c = c.requires.known

pub returns-then-not-contains-clause-there : goal.returns-then-not-contains-clause-there
returns-then-not-contains-clause-there c = c.loop-place.invariant

pub returns-then-not-contains-clause-all : goal.returns-then-not-contains-clause-all
returns-then-not-contains-clause-all c =
    let flag = c.get.result.now in
    λ all. absurd (one_missing c.args.self.now c.args.flags.now c.loop-place.place flag c.get.ensures
    (ap (λ l. has_flag l flag) (sym c.self.view_is) ∙ sym c.contains.ensures ∙ c.if-not-contains.true) all)

pub loop-place-preserved : goal.loop-place-preserved
loop-place-preserved c =
    let flag = c.get.result.now in
    there_more c.args.self.now c.args.flags.now c.loop-place.place flag c.get.ensures
    (ap (λ l. has_flag l flag) (sym c.self.view_is) ∙ sym c.contains.ensures ∙ c.if-not-contains.false) c.loop-place.invariant

pub returns-clause-there : goal.returns-clause-there
returns-clause-there c =
    let end : c.loop-place.place ≡ c.len.result = omega (arith, c.loop-place.auto.place-end (omega arith)) in
    subst (λ n. All (λ flag. has_flag c.args.self.now flag ≡ true) (take n c.args.flags.now)) end c.loop-place.invariant
