use Rattle.std.proofs.Common.{◌≡◌, ◌&&◌, ◌++◌, drop, map}
use Rattle.sieve_profile.specs.view.Profile.{profile_as}
use Rattle.sieve_syntax.specs.view.Tree.{argument_of}
use Rattle.sieve_script.specs.Label.{fills, labels_from}
use Rattle.sieve_script.specs.Shape.{known_shapes}
use Rattle.sieve_script.specs.view.Expected.{expected_as}
use Rattle.sieve_script.proofs.shape.labels_from.Given as goal

-- The labels so far, and then those of the arguments that are left, are the labels of all
-- arguments. All arguments fill the slots expected at the start exactly where two things hold.
-- Those so far fit, and those that are left fill the slots that are still expected.
abbrev pub invariant-loop-argument : goal.invariant-loop-argument
invariant-loop-argument l =
    (labels_from (expected_as l.start) (known_shapes (profile_as l.profile) l.tags (map argument_of l.args)) ≡ l.labels.items ++ labels_from (expected_as l.expected) (known_shapes (profile_as l.profile) l.tags (map argument_of (drop l.argument-index l.args))))
    × (fills (expected_as l.start) (known_shapes (profile_as l.profile) l.tags (map argument_of l.args)) ≡ (l.fit && fills (expected_as l.expected) (known_shapes (profile_as l.profile) l.tags (map argument_of (drop l.argument-index l.args)))))
