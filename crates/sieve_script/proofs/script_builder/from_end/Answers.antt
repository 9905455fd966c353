use Rattle.std.proofs.Common.{ap, ◌∙◌}
use Rattle.sieve_script.specs.Script.{Branches, chooses}
use Rattle.sieve_script.specs.view.Script.{Before, branch_as, else_as}
use Rattle.sieve_script.proofs.FromEnd.{put_turned}
use Rattle.sieve_script.proofs.ScriptSeen.{seen_choose}
use Rattle.sieve_script.proofs.script_builder.from_end.Goals as goal

pub returns : goal.returns
returns c = λ rest.
    ap (λ (before : Before). before rest) (seen_choose c.reverse.new.self c.args.otherwise)
    ∙ ap (λ (b : Branches). chooses b rest) (put_turned branch_as (λ before. before) c.args.branches.items c.reverse.new.self.items (else_as c.args.otherwise) c.reverse.ensures.items)
