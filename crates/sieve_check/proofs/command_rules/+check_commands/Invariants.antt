use Rattle.std.proofs.Common.{◌≡◌, map}
use Rattle.sieve_syntax.specs.Tree.{command_list}
use Rattle.sieve_syntax.specs.view.Tree.{command_as}
use Rattle.sieve_check.specs.Breach.{breaches_in}
use Rattle.sieve_check.specs.Context.{past_commands}
use Rattle.sieve_check.specs.Element.{command_list_elements}
use Rattle.sieve_check.specs.Script.{chain_of}
use Rattle.sieve_check.specs.view.Context.{at_spot}
use Rattle.sieve_script.specs.view.Script.{script_before}
use Rattle.sieve_check.proofs.command_rules.+check_commands.Given as goal

-- The breaches of the commands that are left are all that there are. The context after these
-- commands is the context after all. The commands that are read, before the chain of those that are
-- left, are the chain of all.
abbrev pub invariant-check_commands-loop-command : goal.invariant-check_commands-loop-command
invariant-check_commands-loop-command l = record {
  found : breaches_in (command_list_elements (at_spot l.spot l.scope) (command_list (map command_as l.command-iterator.rest.items))) ≡ breaches_in (command_list_elements (at_spot l.fn.start l.fn.scope) (command_list (map command_as l.fn.commands.items)));
  goes : past_commands (at_spot l.spot l.scope) (command_list (map command_as l.command-iterator.rest.items)) ≡ past_commands (at_spot l.fn.start l.fn.scope) (command_list (map command_as l.fn.commands.items));
  read : script_before l.script (chain_of (at_spot l.spot l.scope) (command_list (map command_as l.command-iterator.rest.items))) ≡ (chain_of (at_spot l.fn.start l.fn.scope) (command_list (map command_as l.fn.commands.items))).rest;
}
