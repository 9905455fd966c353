use Rattle.std.proofs.Common.{◌≡◌, drop, map}
use Rattle.sieve_profile.specs.view.Profile.{profile_as}
use Rattle.sieve_syntax.specs.view.Tree.{argument_of}
use Rattle.sieve_script.specs.Label.{fills}
use Rattle.sieve_script.specs.Shape.{known_shapes}
use Rattle.sieve_script.specs.view.Expected.{expected_as}
use Rattle.sieve_script.proofs.shape.fills.Given as goal

-- the arguments fill the slots expected at the start exactly where those that are left fill
-- the slots still expected
abbrev pub invariant-loop-argument : goal.invariant-loop-argument
invariant-loop-argument l = fills (expected_as l.expected) (known_shapes (profile_as l.profile) l.tags (map argument_of (drop l.argument-index l.args))) ≡ fills (expected_as l.start) (known_shapes (profile_as l.profile) l.tags (map argument_of l.args))
