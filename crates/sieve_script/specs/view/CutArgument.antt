-- The program's arguments whose strings are cut.
use Rattle.sieve_script.specs.CutArgument.{CutArgument, cut_strings, cut_number, cut_tag}
use Rattle.sieve_script.specs.declared.cut_argument.CutArgument as arguments
use Rattle.sieve_script.specs.declared.cut_argument.CutArgument.TheVariants.{Strings, Number, Tag}

abbrev pub cut_as : arguments.CutArgument → CutArgument
cut_as (Strings strings) = cut_strings strings.items
cut_as (Number value) = cut_number value
cut_as Tag = cut_tag
