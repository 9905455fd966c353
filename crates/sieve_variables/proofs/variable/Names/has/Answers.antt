use Rattle.sieve_variables.proofs.NameSet.{has_name}
use Rattle.sieve_variables.proofs.variable.Names.has.Goals as goal

pub returns : goal.returns
returns c = has_name c.args.self.now c.self.inside.names.keys c.args.name.now c.contains.result c.self.view_is c.contains.ensures
