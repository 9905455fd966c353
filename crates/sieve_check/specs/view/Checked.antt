-- The abstract script of a checked script.
use Rattle.sieve_script.specs.Script.{Commands}
use Rattle.sieve_script.specs.view.Script.{commands_as}
use Rattle.sieve_check.specs.declared.checked.Checked.{Checked}

abbrev pub commands_of : Checked → Commands
commands_of checked = commands_as checked.statements.items
