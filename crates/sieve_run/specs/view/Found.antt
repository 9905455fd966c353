-- The answer of a library.
use Rattle.std.specs.Prelude.{◌≡◌}
use Rattle.sieve_code.specs.view.Code.{ops_of}
use Rattle.sieve_run.specs.Library.{Lookup, HasCode, missing, invalid}
use Rattle.sieve_run.specs.declared.library.Found.{Found}
use Rattle.sieve_run.specs.declared.library.Found.TheVariants.{Missing, Invalid, Present}

abbrev pub FoundAs : Found → Lookup → Type 0
FoundAs Missing lookup = lookup ≡ missing
FoundAs Invalid lookup = lookup ≡ invalid
FoundAs (Present code) lookup = HasCode lookup (ops_of code.now)
