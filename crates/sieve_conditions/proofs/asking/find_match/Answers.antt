use Rattle.std.proofs.Common.{map}
use Rattle.sieve_delivery.specs.view.Delivery.{delivery_as}
use Rattle.packed_strings.specs.view.Refs.{source_ref_as}
use Rattle.sieve_delivery.specs.view.State.{state_of}
use Rattle.sieve_variables.specs.Value.{text_value}
use Rattle.sieve_conditions.proofs.Searching.{answers_so, cut_as_source, keyed_found}
use Rattle.sieve_conditions.proofs.asking.find_match.Goals as goal

pub returns-clause-found : goal.returns-clause-found
returns-clause-found c =
    let source = source_ref_as c.args.source.now in
    let state = state_of c.args.state.now in
    let keys = c.args.keys.now in
    answers_so c.find_keyed.result _ _
    (keyed_found c.args.comparison (delivery_as c.args.delivery.now) state source keys _
    (cut_as_source source (map (text_value state.values) keys) c.cuts_keys.result c.cuts_keys.ensures))
    c.find_keyed.ensures.found
