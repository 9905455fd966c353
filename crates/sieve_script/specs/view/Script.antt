-- The program's abstract script. Its lists are kept from the end.
use Rattle.std.specs.Prelude.{List, [], ◌∷◌, map, Option, Some, None}
use Rattle.std.specs.declared.alloc.Global.{Global}
use Rattle.std.specs.declared.vec.Vec.{Vec}
use Rattle.sieve_script.specs.Script as script
use Rattle.sieve_script.specs.Script.{Branches, Commands, Conditions, always, never, asks, negated, all_hold, any_holds, no_conditions, one_condition, no_commands, stops, returns, acts, chooses, no_branches, else_branch, test_branch, Chain}
use Rattle.sieve_script.specs.view.Reading.{ask_as, leaf_as}
use Rattle.sieve_script.specs.declared.script.Branch as branches
use Rattle.sieve_script.specs.declared.script.Condition as conditions
use Rattle.sieve_script.specs.declared.script.Condition.TheOpen as condition_layers
use Rattle.sieve_script.specs.declared.script.Statement as statements
use Rattle.sieve_script.specs.declared.script.Statement.TheOpen as layers
use Rattle.sieve_script.specs.declared.script_builder.ScriptBuilder.{ScriptBuilder}

-- The items of a list, put before the rest. Each is put before the result of those in front of it,
-- so that the last one stands first.
abbrev pub put_each : {X Y : Type 0} → (X → Y → Y) → List X → Y → Y
put_each put [] after = after
put_each put (x ∷ xs) after = put_each put xs (put x after)

-- the same of a list that is in order
abbrev pub put_all : {X Y : Type 0} → (X → Y → Y) → List X → Y → Y
put_all put [] after = after
put_all put (x ∷ xs) after = put x (put_all put xs after)

-- CONDITIONS

abbrev pub conditions_from : List script.Condition → Conditions
conditions_from list = put_each one_condition list no_conditions

-- a layer of conditions, with the conditions below it already seen
abbrev pub condition_step : condition_layers.Condition-F script.Condition → script.Condition
condition_step condition_layers.Always = always
condition_step condition_layers.Never = never
condition_step (condition_layers.Asks ask) = asks (ask_as ask)
condition_step (condition_layers.Not inner) = negated inner.value
condition_step (condition_layers.All list) = all_hold (conditions_from list.items)
condition_step (condition_layers.Any list) = any_holds (conditions_from list.items)

abbrev pub condition_as : conditions.Condition → script.Condition
condition_as = conditions.fold-Condition script.Condition condition_step

abbrev pub conditions_as : List conditions.Condition → Conditions
conditions_as list = conditions_from (map condition_as list)

-- COMMANDS

-- functions that put a command before commands, and a branch before branches
abbrev pub Before : Type 0
Before = Commands → Commands

abbrev pub BranchBefore : Type 0
BranchBefore = Branches → Branches

abbrev pub commands_from : List Before → Commands
commands_from list = put_each (λ before. before) list no_commands

abbrev pub branches_from : List BranchBefore → Branches → Branches
branches_from list others = put_each (λ before. before) list others

abbrev pub else_from : Option (Vec Before Global) → Branches
else_from None = no_branches
else_from (Some block) = else_branch (commands_from block.items)

-- a layer of statements, with the layers below it already seen
abbrev pub statement_step : layers.Statement-F Before BranchBefore → Before
statement_step layers.Stop = stops
statement_step layers.Return = returns
statement_step (layers.Act leaf line) = acts (leaf_as leaf) line
statement_step (layers.Choose list otherwise) = chooses (branches_from list.items (else_from otherwise))

abbrev pub branch_step : layers.Branch-F Before BranchBefore → BranchBefore
branch_step b = test_branch (condition_as b.condition) (commands_from b.block.items)

abbrev pub statement_as : statements.Statement → Before
statement_as = statements.fold-Statement Before BranchBefore statement_step branch_step

abbrev pub branch_as : branches.Branch → BranchBefore
branch_as = branches.fold-Branch Before BranchBefore statement_step branch_step

-- commands, branches before others, and an `else`
abbrev pub commands_as : List statements.Statement → Commands
commands_as list = commands_from (map statement_as list)

abbrev pub branches_as : List branches.Branch → Branches → Branches
branches_as list others = branches_from (map branch_as list) others

abbrev pub else_as : Option (Vec statements.Statement Global) → Branches
else_as None = no_branches
else_as (Some block) = else_branch (commands_as block.items)

-- IN ORDER

-- conditions, branches and statements that are kept in order, before others
abbrev pub conditions_before : List conditions.Condition → Conditions → Conditions
conditions_before list others = put_all one_condition (map condition_as list) others

abbrev pub branches_before : List branches.Branch → Branches → Branches
branches_before list others = put_all (λ before. before) (map branch_as list) others

abbrev pub statements_before : List statements.Statement → Commands → Commands
statements_before list rest = put_all (λ before. before) (map statement_as list) rest

-- The branches of an open `if`, where there is one, before a chain. The chain has the branches that
-- go on with it, and the commands after them.
abbrev pub open_before : Option (Vec branches.Branch Global) → Chain → Commands
open_before None chain = chain.rest
open_before (Some list) chain = chooses (branches_before list.items chain.otherwise) chain.rest

-- the commands that are read, before a chain
abbrev pub script_before : ScriptBuilder → Chain → Commands
script_before read chain = statements_before read.done.items (open_before read.open chain)
