-- The program's entries of `:content`.
use Rattle.mime_text.specs.Wanted.{Wanted, any_type, no_type, of_main, of_type}
use Rattle.mime_text.specs.declared.wanted.WantedType.{WantedType}
use Rattle.mime_text.specs.declared.wanted.WantedType.TheVariants as wanted

abbrev pub wanted_as : WantedType → Wanted
wanted_as wanted.Any = any_type
wanted_as (wanted.Main main) = of_main main.now
wanted_as (wanted.Type main sub) = of_type main.now sub.now
wanted_as wanted.Nothing = no_type
