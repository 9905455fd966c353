use Rattle.std.proofs.Common.{◌≡◌, ℕ, List, [], ◌∷◌, OnOk, Some, rules, subst}
use Rattle.bench.proofs.Jobs.{first_put, main_leaves_none}
use Rattle.bench.proofs.testing.put_sample.Goals as goal

pub returns-clause-stale : goal.returns-clause-stale
returns-clause-stale c = λ none.
    let is : c.in_ok-id.id ≡ c.args.job.now.id = search rules in
    subst (λ (id : List ℕ). OnOk c.put_message.result (c.put_message.new.self.stale ≡ id ∷ [])) is
    (first_put c.set.new.self c.put_message.new.self c.in_ok-id.id c.in_ok-message.message c.put_message.result
    (main_leaves_none (Some c.in_ok-main.main) c.args.bench.now.content c.set.new.self.content none c.in_ok-set.ensures.0.0) c.put_message.ensures.0)
