use Rattle.std.proofs.Common.{map}
use Rattle.sieve_syntax.specs.view.Tree.{argument_of}
use Rattle.sieve_check.proofs.Moves.{spot_moves}
use Rattle.sieve_check.proofs.context.Spot.after_kind.Goals as goal

pub returns : goal.returns
returns c = spot_moves c.args.self c.args.kind (map argument_of c.args.args.now) c.leads_after.result c.allows_else.result c.required_after.result c.leads_after.ensures c.allows_else.ensures c.required_after.ensures
