use Rattle.sieve_variables.proofs.Held.{put_held}
use Rattle.sieve_variables.proofs.variables.Variables.insert.Goals as goal

pub returns-in-Ok-clause-ok : goal.returns-in-Ok-clause-ok
returns-in-Ok-clause-ok c =
    put_held c.args.self.now c.self.inside.entries.entries _ _ c.args.name.now c.args.value c.self.view_is c.in_ok-name.ensures.items c.in-Ok.ensures.entries
