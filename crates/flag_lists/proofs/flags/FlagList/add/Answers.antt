use Rattle.std.proofs.Common.{◌≡◌, ◌∙◌, ◌-◌, ℕ, List, SomeIndex, ap, drop, length, subst, sym, take, true}
use Rattle.std.specs.List.{All}
use Rattle.std.proofs.lemmas.Result.{on_err_weaker, on_ok_weaker}
use Rattle.flag_lists.specs.Flags.{flag_union, has_flag}
use Rattle.flag_lists.proofs.FlagLists.{none_after, union_after_some, union_has, union_slice}
use Rattle.flag_lists.proofs.flags.FlagList.add.Goals as goal

joined : (c : goal.After-len-count) → flag_union c.self.inside.flags.keys (take (length c.as_slice.result.now - c.first_missing-known.result) (drop c.first_missing-known.result c.as_slice.result.now)) ≡ flag_union c.args.self.now c.args.flags.now
joined c =
    ap (λ l. flag_union l (take (length c.as_slice.result.now - c.first_missing-known.result) (drop c.first_missing-known.result c.as_slice.result.now))) c.self.view_is
    ∙ union_slice c.args.self.now c.args.flags.now c.as_slice.result.now c.first_missing-known.result (c.as_slice.ensures.keys ∙ c.flags.view_is) c.first_missing-known.ensures.within c.first_missing-known.ensures.there

pub returns-clause-union : goal.returns-clause-union
returns-clause-union c = on_ok_weaker c.insert_each-added.result (λ keys. keys ∙ joined c) c.insert_each-added.ensures.ok

pub returns-clause-there : goal.returns-clause-there
returns-clause-there c =
    on_ok_weaker c.insert_each-added.result
    (λ keys. subst (λ (l : List (List ℕ)). All (λ (flag : List ℕ). has_flag l flag ≡ true) c.args.flags.now) (sym (keys ∙ joined c)) (union_has c.args.self.now c.args.flags.now))
    c.insert_each-added.ensures.ok

pub returns-clause-err : goal.returns-clause-err
returns-clause-err c =
    on_err_weaker c.insert_each-added.result
    (λ some. union_after_some c.args.self.now c.args.flags.now c.as_slice.result.now c.args.known c.first_missing-known.result _ (c.as_slice.ensures.keys ∙ c.flags.view_is) c.first_missing-known.ensures.after c.first_missing-known.ensures.within c.first_missing-known.ensures.there
    (subst (λ (l : List (List ℕ)). SomeIndex (take (length c.as_slice.result.now - c.first_missing-known.result) (drop c.first_missing-known.result c.as_slice.result.now)) (λ i. c.insert_each-added.new.flags.keys ≡ flag_union l (take i (take (length c.as_slice.result.now - c.first_missing-known.result) (drop c.first_missing-known.result c.as_slice.result.now))))) c.self.view_is some))
    c.insert_each-added.ensures.err

pub returns-clause-held : goal.returns-clause-held
returns-clause-held c =
    λ all. c.insert_each-added.ensures.none
    (none_after c.args.flags.now c.as_slice.result.now c.first_missing-known.result (c.as_slice.ensures.keys ∙ c.flags.view_is) (c.first_missing-known.ensures.all all))
