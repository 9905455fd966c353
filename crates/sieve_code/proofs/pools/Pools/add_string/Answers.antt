use Rattle.std.proofs.Common.{List, Some, ap, sym, subst, ◌∙◌}
use Rattle.std.proofs.lemmas.Result.{IfOk-weaker}
use Rattle.sieve_variables.specs.Part.{Part}
use Rattle.sieve_code.specs.Pool.{Kept, string_in}
use Rattle.sieve_code.specs.view.Pools.{pool_as}
use Rattle.sieve_code.proofs.Keeping.{string_kept, string_shared}
use Rattle.sieve_code.proofs.pools.Pools.add_string.Goals as goal

pub returns-in-Some : goal.returns-in-Some
returns-in-Some c =
    let p = pool_as c.args.self.now in
    IfOk-weaker c.place_of.result _ _
    (λ place is. subst (λ n. Kept p p (λ r. string_in r n) c.args.string) (sym is) (string_shared p c.in-Some.place c.args.string (c.in-Some.ensures ∙ ap Some c.as_slice.ensures)))
    c.place_of.ensures.is

pub returns-in_ok-push-in-None : goal.returns-in_ok-push-in-None
returns-in_ok-push-in-None c =
    let p = pool_as c.args.self.now in
    string_kept p _ c.in_ok-place-in-None.place c.args.string (c.in_ok-place-in-None.ensures.is ∙ c.len.ensures) (ap (λ (s : List (List Part)). record p { strings = s }) c.in_ok-push-in-None.ensures)
