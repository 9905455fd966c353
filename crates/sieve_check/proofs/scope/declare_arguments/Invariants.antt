use Rattle.std.proofs.Common.{◌≡◌, map, drop}
use Rattle.sieve_syntax.specs.view.Tree.{argument_of}
use Rattle.sieve_check.specs.Scope.{declaring_arguments}
use Rattle.sieve_check.proofs.scope.declare_arguments.Given as goal

abbrev pub invariant-loop-argument : goal.invariant-loop-argument
invariant-loop-argument l = declaring_arguments l.declared l.labels_left (map argument_of (drop l.argument-index l.args)) ≡ declaring_arguments l.fn.declared l.labels (map argument_of l.args)
