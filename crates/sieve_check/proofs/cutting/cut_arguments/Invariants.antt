use Rattle.std.proofs.Common.{◌≡◌, ◌++◌, drop, map}
use Rattle.sieve_syntax.specs.view.Tree.{argument_of}
use Rattle.sieve_check.specs.Cut.{cut_labelled}
use Rattle.sieve_check.specs.view.Context.{context_as}
use Rattle.sieve_script.specs.view.CutArgument.{cut_as}
use Rattle.sieve_check.proofs.cutting.cut_arguments.Given as goal

-- the arguments cut so far, and then the others cut by the labels that are left,
-- are all arguments cut
abbrev pub invariant-loop-argument : goal.invariant-loop-argument
invariant-loop-argument l = map cut_as l.cut.items ++ cut_labelled (context_as l.context) l.labels_left (map argument_of (drop l.argument-index l.args)) ≡ cut_labelled (context_as l.context) l.labels (map argument_of l.args)
