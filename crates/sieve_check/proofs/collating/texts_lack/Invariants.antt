use Rattle.std.proofs.Common.{◌≡◌, drop, map}
use Rattle.std.specs.List.{list_any}
use Rattle.sieve_check.specs.Collating.{text_lacks}
use Rattle.sieve_profile.specs.view.Profile.{profile_as}
use Rattle.sieve_syntax.specs.view.Tree.{text_of}
use Rattle.sieve_table.specs.view.Required.{required_as}
use Rattle.sieve_check.proofs.collating.texts_lack.Given as goal

-- some string names such a comparator exactly where some string that is left does
abbrev pub invariant-loop-text : goal.invariant-loop-text
invariant-loop-text l = list_any (text_lacks (profile_as l.profile) (required_as l.required) l.role) (map text_of (drop l.text-index l.texts)) ≡ list_any (text_lacks (profile_as l.profile) (required_as l.required) l.role) (map text_of l.texts)
