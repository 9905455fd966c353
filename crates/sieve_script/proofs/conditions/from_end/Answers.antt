use Rattle.sieve_script.specs.Script.{no_conditions, one_condition}
use Rattle.sieve_script.specs.view.Script.{condition_as}
use Rattle.sieve_script.proofs.FromEnd.{put_turned}
use Rattle.sieve_script.proofs.conditions.from_end.Goals as goal

pub returns : goal.returns
returns c = put_turned condition_as one_condition c.args.conditions.items c.reverse.new.self.items no_conditions c.reverse.ensures.items
