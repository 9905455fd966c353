-- The context of a command: the text before it, as far as rules ask.
use Rattle.std.specs.Prelude.{Bool, true, false, ◌&&◌, ◌||◌, List, [], ◌∷◌, Option, Some, None, if◌then◌else◌}
use Rattle.sieve_syntax.specs.Tree.{Command, command, CommandList, end_commands, more_commands, Block, no_block, block, Text, Argument, strings, number, tag}
use Rattle.sieve_table.specs.Role.{is_expanded}
use Rattle.sieve_check.specs.Said.{said_arguments}
use Rattle.sieve_check.specs.Scope.{Scope, naming_arguments, no_names}
use Rattle.sieve_profile.specs.Profile.{Profile}
use Rattle.sieve_script.specs.Shape.{known_labels}
use Rattle.sieve_script.specs.declared.label.Label.{Label}
use Rattle.sieve_table.specs.Known.{known_command}
use Rattle.sieve_table.specs.Required.{Required, is_required, nothing_required, requiring}
use Rattle.sieve_table.specs.Table.{command_row, same_command}
use Rattle.sieve_table.specs.declared.capability.Capability.TheVariants.{Variables}
use Rattle.sieve_table.specs.declared.row.Role.{Role}
use Rattle.sieve_table.specs.declared.table.CommandKind.{CommandKind}
use Rattle.sieve_table.specs.declared.table.CommandKind.TheVariants.{Require, If, Elsif, Else}

-- whether references in a string stand for values, by its role, if it has one (RFC 5229, section 3)
abbrev pub takes_references : Required → Option Role → Bool
takes_references required None = false
takes_references required (Some role) = is_expanded role && is_required required Variables

-- the required capabilities, with those that strings name, and the strings of arguments
abbrev pub requiring_texts : Required → List Text → Required
requiring_texts required [] = required
requiring_texts required (t ∷ ts) = requiring_texts (requiring required t.string) ts

abbrev pub requiring_argument : Required → Argument → Required
requiring_argument required (strings items bracketed) = requiring_texts required items
requiring_argument required (number value line) = required
requiring_argument required (tag name line) = required

abbrev pub requiring_arguments : Required → List Argument → Required
requiring_arguments required [] = required
requiring_arguments required (a ∷ args) = requiring_arguments (requiring_argument required a) args

pub record Context : Type 0 where
  -- the extensions that are known beyond those that always are; they are the same
  -- for a whole script
  pub profile : Profile
  -- whether only `require` commands stand before it in the script (RFC 5228, section 3.2)
  pub leads : Bool
  -- whether an `if` or `elsif` stands directly before it in its block (RFC 5228, section 3.1)
  pub follows_if : Bool
  -- The capabilities named by the `require` commands at the top that stand before it. After these
  -- commands no others are required (RFC 5228, section 3.2).
  pub required : Required
  -- Whether it is a string of a test with `:contains` or `:matches` (RFC 5228, section 2.7.1). Such
  -- a test finds parts of values.
  pub finds_parts : Bool
  -- the names of variables in the text before it (RFC 5229, section 4; RFC 6609, section 3.4.1)
  pub scope : Scope

-- a context, where the script is judged by another profile
abbrev pub under : Profile → Context → Context
under profile context = record context { profile = profile }

-- the context at the start of a script
abbrev pub script_start : Profile → Context
script_start profile = record { profile = profile; leads = true; follows_if = false; required = nothing_required; finds_parts = false; scope = no_names }

abbrev pub is_require : CommandKind → Bool
is_require kind = same_command kind Require

-- whether an `elsif` or `else` may follow a command: it is an `if` or `elsif`
abbrev pub allows_else : CommandKind → Bool
allows_else kind = same_command kind If || same_command kind Elsif

-- whether a command is an `elsif` or `else`, which goes on with an `if`
abbrev pub continues_if : CommandKind → Bool
continues_if kind = same_command kind Elsif || same_command kind Else

-- The required capabilities after a command with such arguments. A `require` at the top adds
-- those that it names.
abbrev pub required_after : Context → CommandKind → List Argument → Required
required_after context kind args = if context.leads && is_require kind then requiring_arguments context.required args else context.required

-- the names of a scope after the arguments of a command, by the octets that their strings say
abbrev pub naming_said : Required → Scope → List Label → List Argument → Scope
naming_said required scope labels args = naming_arguments scope labels (said_arguments required labels args)

-- the context after a command of a kind, with its arguments, and before its block
abbrev pub after_kind : Context → Option CommandKind → List Argument → Context
after_kind context None args = record context { leads = false; follows_if = false }
after_kind context (Some kind) args = record {
  profile = context.profile;
  leads = context.leads && is_require kind;
  follows_if = allows_else kind;
  required = required_after context kind args;
  finds_parts = context.finds_parts;
  scope = naming_said context.required context.scope (known_labels context.profile (command_row kind) args) args;
}

-- the context at the start of a block
abbrev pub inside : Context → Context
inside context = record context { leads = false; follows_if = false }

unfoldable mutual
  -- the context after a whole command
  pub after : Context → Command → Context
  after context (command name line args ts ending) = after_block (after_kind context (known_command context.profile name) args) ending

  -- the context after a block, in which variables may be set and declared
  pub after_block : Context → Block → Context
  after_block context no_block = context
  after_block context (block ns) = record context { scope = (past_commands (inside context) ns).scope }

  -- the context after commands in turn
  pub past_commands : Context → CommandList → Context
  past_commands context end_commands = context
  past_commands context (more_commands n ns) = past_commands (after context n) ns
