use Rattle.std.proofs.Common.{◌≡◌, ◌++◌, [], ◌∷◌, rules}
use Rattle.sieve_script.specs.view.Script.{statement_as}
use Rattle.sieve_script.proofs.FromEnd.{put_last}
use Rattle.sieve_script.proofs.script_builder.pushed.Goals as goal

pub returns : goal.returns
returns c =
    let pushed : c.push.new.self.items ≡ c.args.statements.items ++ c.args.statement ∷ [] = search rules in
    λ rest. put_last statement_as (λ before. before) c.args.statements.items c.push.new.self.items c.args.statement rest pushed
