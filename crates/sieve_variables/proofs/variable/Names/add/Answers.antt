use Rattle.sieve_variables.proofs.NameSet.{put_name}
use Rattle.sieve_variables.proofs.variable.Names.add.Goals as goal
use Rattle.sieve_variables.proofs.variable.Names.add.Goals.{in-Ok, in-Err}

pub returns-clause-ok : goal.returns-clause-ok
returns-clause-ok c =
    elim c.match-insert.branch [
      | in-Ok w ↦
          rw w.result-is (put_name c.args.self.now c.self.inside.names.keys c.insert.new.self.keys c.in_ok-name.name c.args.name.now c.self.view_is c.in_ok-name.ensures.items w.in-Ok.ensures.keys)
      | in-Err w ↦ rw w.result-is tt
    ]
