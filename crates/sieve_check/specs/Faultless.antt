-- Scripts that break no rule.
use Rattle.std.specs.Prelude.{◌≡◌, List, []}
use Rattle.sieve_profile.specs.Profile.{Profile}
use Rattle.sieve_syntax.specs.Tree as syntax
use Rattle.sieve_check.specs.Breach.{breaches_of}
use Rattle.sieve_check.specs.Script.{script_of}
use Rattle.sieve_script.specs.Script.{Commands}

-- a script is that of a text's tree without a breach, where it is judged by some profile
abbrev pub IsFaultless : Commands → Type 0
IsFaultless script = (profile : Profile) × (tree : List syntax.Command) × (breaches_of profile tree ≡ []) × (script ≡ script_of profile tree)
