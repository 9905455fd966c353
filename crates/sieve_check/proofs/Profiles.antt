-- The profile by which a script is judged is the same for its whole text.
use Rattle.std.proofs.Common.{◌≡◌, List, None, Option, Some, refl, ◌∙◌}
use Rattle.sieve_syntax.specs.Tree.{Argument, Block, no_block, block, Command, command}
use Rattle.sieve_check.specs.Context.{Context, after, after_block, after_kind}
use Rattle.sieve_table.specs.Known.{known_command}
use Rattle.sieve_table.specs.declared.table.CommandKind.{CommandKind}

pub kind_profile : (context : Context) (k : Option CommandKind) (args : List Argument) → (after_kind context k args).profile ≡ context.profile
kind_profile context None args = refl
kind_profile context (Some kind) args = refl

block_profile : (context : Context) (ending : Block) → (after_block context ending).profile ≡ context.profile
unfolding after_block
block_profile context no_block = refl
block_profile context (block ns) = refl

pub command_profile : (n : Command) (context : Context) → (after context n).profile ≡ context.profile
unfolding after
command_profile (command name line args ts ending) context = block_profile (after_kind context (known_command context.profile name) args) ending ∙ kind_profile context (known_command context.profile name) args
