use Rattle.std.proofs.Common.{ap, length, subst, sym, ◌∙◌}
use Rattle.std.proofs.lemmas.Result.{IfOk-weaker}
use Rattle.packed_strings.specs.Joined.{Lists, list_in, lists_plus}
use Rattle.sieve_code.specs.Pool.{Kept}
use Rattle.sieve_code.specs.view.Pools.{pool_as}
use Rattle.sieve_code.proofs.Keeping.{list_kept, list_shared}
use Rattle.sieve_code.proofs.pools.Pools.add_list.Goals as goal

pub returns-in-Some : goal.returns-in-Some
returns-in-Some c =
    let p = pool_as c.args.self.now in let texts = c.args.texts.items in
    IfOk-weaker c.place_of.result _ _
    (λ place is. subst (λ n. Kept p p (λ r. list_in r.lists n) texts) (sym is) (list_shared p c.in-Some.place texts (λ more. c.in-Some.ensures more ∙ c.as_slice.ensures.value)))
    c.place_of.ensures.is

pub returns-in_ok-push-in-None : goal.returns-in_ok-push-in-None
returns-in_ok-push-in-None c =
    let p = pool_as c.args.self.now in
    list_kept p _ c.in_ok-place-in-None.place c.args.texts.items (c.in_ok-place-in-None.ensures.is ∙ c.len.ensures) (ap (λ (l : Lists). record p { lists = l }) c.in_ok-push-in-None.ensures.new)
    (λ more. ap (λ (l : Lists). list_in (lists_plus l more) (length p.lists.ends)) (sym c.in_ok-push-in-None.ensures.new) ∙ c.in_ok-push-in-None.ensures.kept more)
