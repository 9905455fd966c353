use Rattle.std.proofs.Common.{◌≡◌, ◌++◌, [], ◌∷◌, ap, ◌∙◌, rules}
use Rattle.sieve_script.specs.view.Script.{BranchBefore, branch_as, branches_before}
use Rattle.sieve_script.proofs.FromEnd.{put_last}
use Rattle.sieve_script.proofs.ScriptSeen.{seen_branch}
use Rattle.sieve_script.proofs.script_builder.with_branch.Goals as goal

pub returns : goal.returns
returns c =
    let pushed : c.push.new.self.items ≡ c.args.branches.items ++ c.args.branch ∷ [] = search rules in
    λ others.
    put_last branch_as (λ before. before) c.args.branches.items c.push.new.self.items c.args.branch others pushed
    ∙ ap (λ (before : BranchBefore). branches_before c.args.branches.items (before others)) (seen_branch c.args.branch)
