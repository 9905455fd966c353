use Rattle.std.proofs.Common.{sym}
use Rattle.sieve_delivery.specs.view.Delivery.{delivery_as}
use Rattle.sieve_conditions.specs.view.FieldTests.{found_with}
use Rattle.sieve_delivery.specs.view.State.{state_of}
use Rattle.sieve_conditions.proofs.Searching.{answers_so, first_of_paths}
use Rattle.sieve_conditions.proofs.path_values.find_in_paths.Goals as goal

pub returns : goal.returns
returns c =
    answers_so c.find_by_path_names.result _ _
    (sym (first_of_paths (found_with c.args.matcher.now) c.args.part (delivery_as c.args.delivery.now) (state_of c.args.state.now) c.args.names.now))
    c.find_by_path_names.ensures
