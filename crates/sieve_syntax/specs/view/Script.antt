-- The model of the program's script of a text.
use Rattle.std.specs.Prelude.{List, map}
use Rattle.sieve_syntax.specs.Tree.{Command}
use Rattle.sieve_syntax.specs.declared.script.ParsedScript as scripts
use Rattle.sieve_syntax.specs.view.Tree.{command_as}

-- the commands of the script
abbrev pub tree_of : scripts.ParsedScript → List Command
tree_of s = map command_as s.commands.items
