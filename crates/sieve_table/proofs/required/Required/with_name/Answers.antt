use Rattle.std.proofs.Common.{◌≡◌, Bool, true, false, ◌||◌, refl, sym, ap, ◌∙◌}
use Rattle.sieve_table.specs.view.Required.{required_as}
use Rattle.sieve_table.proofs.Names.{is_the, named_alone}
use Rattle.sieve_table.proofs.required.Required.with_name.Goals as goal

or_false : (b : Bool) → b ≡ (b || false)
or_false true = refl
or_false false = refl

pub returns-in-Some : goal.returns-in-Some
returns-in-Some c =
    c.with.ensures
    ∙ (λ i other. required_as c.args.self other || sym (named_alone c.args.name.now other ∙ ap (is_the other) (sym c.capability_named.ensures ∙ c.in-Some.is)) i)

pub returns-in-None : goal.returns-in-None
returns-in-None c =
    λ i other. (or_false (required_as c.args.self other) ∙ ap (λ b. required_as c.args.self other || b) (sym (named_alone c.args.name.now other ∙ ap (is_the other) (sym c.capability_named.ensures ∙ c.in-None.is)))) i
