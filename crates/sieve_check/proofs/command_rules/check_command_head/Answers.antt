use Rattle.std.proofs.Common.{refl, rules}
use Rattle.sieve_check.specs.view.Context.{context_as}
use Rattle.sieve_check.proofs.Heads.{command_passes, command_stops, command_unknown}
use Rattle.sieve_check.proofs.command_rules.check_command_head.Goals as goal

pub returns-in_ok-labels-in-Some-clause-found : goal.returns-in_ok-labels-in-Some-clause-found
returns-in_ok-labels-in-Some-clause-found c =
    command_passes c.args.command.now (context_as c.args.context) c.in-Some.kind c.in-Some.ensures c.in_ok-labels-in-Some.ensures.found

pub returns-in_err-labels-in-Some-clause-found : goal.returns-in_err-labels-in-Some-clause-found
returns-in_err-labels-in-Some-clause-found c =
    let stops = command_stops c.args.command.now (context_as c.args.context) c.in-Some.kind _ c.in-Some.ensures c.in_err-labels-in-Some.ensures.found in
    search rules

pub returns-in-None-clause-found : goal.returns-in-None-clause-found
returns-in-None-clause-found c = command_unknown c.args.command.now (context_as c.args.context) _ c.in-None.ensures refl
