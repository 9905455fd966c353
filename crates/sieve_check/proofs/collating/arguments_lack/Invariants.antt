use Rattle.std.proofs.Common.{◌≡◌, drop, map}
use Rattle.sieve_check.specs.Collating.{arguments_lack}
use Rattle.sieve_profile.specs.view.Profile.{profile_as}
use Rattle.sieve_syntax.specs.view.Tree.{argument_of}
use Rattle.sieve_table.specs.view.Required.{required_as}
use Rattle.sieve_check.proofs.collating.arguments_lack.Given as goal

-- some argument names such a comparator exactly where one that is left does, by the
-- labels that are left
abbrev pub invariant-loop-argument : goal.invariant-loop-argument
invariant-loop-argument l = arguments_lack (profile_as l.profile) (required_as l.required) l.labels_left (map argument_of (drop l.argument-index l.args)) ≡ arguments_lack (profile_as l.profile) (required_as l.required) l.labels (map argument_of l.args)
