use Rattle.std.proofs.Common.{◌≡◌, List, length}
use Rattle.sieve_script.specs.Script.{Branches}
use Rattle.sieve_script.specs.view.Script.{branches_as, commands_as}
use Rattle.sieve_code.specs.Choice.{branches_before}
use Rattle.sieve_code.specs.Operation.{Operation}
use Rattle.sieve_code.specs.view.Branches.{has_branch}
use Rattle.sieve_code.proofs.Putting.{BranchesPut, CommandsPut}
use Rattle.sieve_code.proofs.command_code.+command_code.Given as goal

-- some commands stand before the given tail, and the others are left
abbrev pub invariant-put_commands-loop-statement : goal.invariant-put_commands-loop-statement
invariant-put_commands-loop-statement l = CommandsPut l.tail l.fn.tail l.statement-iterator.rest.items (commands_as l.fn.commands.items)

-- some branches stand before the tail that was there, and the others are left
abbrev pub invariant-put_branches-loop-branch : goal.invariant-put_branches-loop-branch
invariant-put_branches-loop-branch l = (others : Branches) (rest : List Operation) → l.fn.otherwise ≡ has_branch others → l.fn.after ≡ length rest → l.fn.tail ≡ branches_before others rest → BranchesPut l.tail rest l.follows l.branch-iterator.rest.items (branches_as l.fn.branches.items others)
