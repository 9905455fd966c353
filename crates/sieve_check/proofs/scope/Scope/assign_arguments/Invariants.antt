use Rattle.std.proofs.Common.{◌≡◌, map, drop}
use Rattle.sieve_syntax.specs.view.Tree.{argument_of}
use Rattle.sieve_check.specs.Scope.{assigning_arguments}
use Rattle.sieve_check.proofs.scope.Scope.assign_arguments.Given as goal

abbrev pub invariant-loop-argument : goal.invariant-loop-argument
invariant-loop-argument l = assigning_arguments l.self l.labels_left (map argument_of (drop l.argument-index l.args)) ≡ assigning_arguments l.fn.self l.labels (map argument_of l.args)
