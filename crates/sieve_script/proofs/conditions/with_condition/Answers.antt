use Rattle.std.proofs.Common.{◌≡◌, ◌++◌, [], ◌∷◌, rules}
use Rattle.sieve_script.specs.Script.{one_condition}
use Rattle.sieve_script.specs.view.Script.{condition_as}
use Rattle.sieve_script.proofs.FromEnd.{put_last}
use Rattle.sieve_script.proofs.conditions.with_condition.Goals as goal

pub returns : goal.returns
returns c =
    let pushed : c.push.new.self.items ≡ c.args.conditions.items ++ c.args.condition ∷ [] = search rules in
    λ others. put_last condition_as one_condition c.args.conditions.items c.push.new.self.items c.args.condition others pushed
