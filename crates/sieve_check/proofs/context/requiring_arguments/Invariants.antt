use Rattle.std.proofs.Common.{◌≡◌, drop, map}
use Rattle.sieve_syntax.specs.view.Tree.{argument_of}
use Rattle.sieve_check.specs.Context.{requiring_arguments}
use Rattle.sieve_table.specs.view.Required.{required_as}
use Rattle.sieve_check.proofs.context.requiring_arguments.Given as goal

-- the capabilities required so far, and those that the rest of the arguments name, are
-- those after all arguments
abbrev pub invariant-loop-argument : goal.invariant-loop-argument
invariant-loop-argument l = requiring_arguments (required_as l.required) (map argument_of (drop l.argument-index l.args)) ≡ requiring_arguments (required_as l.fn.required) (map argument_of l.args)
