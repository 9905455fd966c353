use Rattle.std.proofs.Common.{◌∙◌, ap}
use Rattle.sieve_delivery.specs.view.Delivery.{delivery_as}
use Rattle.sieve_conditions.specs.view.FieldTests.{found_with}
use Rattle.sieve_delivery.specs.view.State.{state_of}
use Rattle.octets.specs.view.Texts.{octets_of_each}
use Rattle.sieve_conditions.proofs.Searching.{answers_so, held_values}
use Rattle.sieve_conditions.proofs.flag_values.find_in_variables.Goals as goal

pub returns : goal.returns
returns c =
    answers_so c.find_in_texts.result _ _
    (held_values (found_with c.args.matcher.now) (delivery_as c.args.delivery.now) (state_of c.args.state.now) c.args.variables.now (octets_of_each c.deref.result.now)
    (ap octets_of_each c.deref.ensures.value ∙ c.in_ok-held.ensures))
    c.find_in_texts.ensures
