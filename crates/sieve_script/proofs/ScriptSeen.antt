-- One layer of conditions and of statements as plain data.
use Rattle.std.proofs.Common.{◌≡◌, ℕ, Option, Some, None, ap, sym, ◌∙◌}
use Rattle.std.specs.declared.alloc.Global.{Global}
use Rattle.std.specs.declared.boxed.Box.{Box}
use Rattle.std.specs.declared.vec.Vec.{Vec}
use Rattle.sieve_script.specs.Script as script
use Rattle.sieve_script.specs.Script.{always, never, asks, negated, all_hold, any_holds, stops, returns, acts, chooses, test_branch}
use Rattle.sieve_script.specs.view.Reading.{ReadAsk, ReadLeaf, ask_as, leaf_as}
use Rattle.sieve_script.specs.view.Script.{Before, BranchBefore, branch_as, branch_step, branches_as, commands_as, condition_as, condition_step, conditions_as, else_as, statement_as, statement_step}
use Rattle.sieve_script.specs.declared.script.Branch as branches
use Rattle.sieve_script.specs.declared.script.Condition as declared_conditions
use Rattle.sieve_script.specs.declared.script.Condition.TheFolds as condition_folds
use Rattle.sieve_script.specs.declared.script.Condition.TheOpen as condition_layers
use Rattle.sieve_script.specs.declared.script.Condition.TheVariants as condition
use Rattle.sieve_script.specs.declared.script.Statement as statements
use Rattle.sieve_script.specs.declared.script.Statement.TheFolds as folds
use Rattle.sieve_script.specs.declared.script.Statement.TheOpen as layers
use Rattle.sieve_script.specs.declared.script.Statement.TheVariants as statement

-- CONDITIONS

pub seen_always : condition_as condition.Always ≡ always
seen_always = ap condition_as (sym condition.rolls-Always) ∙ condition_folds.fold-roll-Condition script.Condition condition_step condition_layers.Always

pub seen_never : condition_as condition.Never ≡ never
seen_never = ap condition_as (sym condition.rolls-Never) ∙ condition_folds.fold-roll-Condition script.Condition condition_step condition_layers.Never

pub seen_asks : (ask : ReadAsk) → condition_as (condition.Asks ask) ≡ asks (ask_as ask)
seen_asks ask = ap condition_as (sym (condition.rolls-Asks ask)) ∙ condition_folds.fold-roll-Condition script.Condition condition_step (condition_layers.Asks ask)

pub seen_not : (inner : Box declared_conditions.Condition Global) → condition_as (condition.Not inner) ≡ negated (condition_as inner.value)
seen_not inner = ap condition_as (sym (condition.rolls-Not inner)) ∙ condition_folds.fold-roll-Condition script.Condition condition_step (condition_layers.Not inner)

pub seen_all : (list : Vec declared_conditions.Condition Global) → condition_as (condition.All list) ≡ all_hold (conditions_as list.items)
seen_all list = ap condition_as (sym (condition.rolls-All list)) ∙ condition_folds.fold-roll-Condition script.Condition condition_step (condition_layers.All list)

pub seen_any : (list : Vec declared_conditions.Condition Global) → condition_as (condition.Any list) ≡ any_holds (conditions_as list.items)
seen_any list = ap condition_as (sym (condition.rolls-Any list)) ∙ condition_folds.fold-roll-Condition script.Condition condition_step (condition_layers.Any list)

-- STATEMENTS

pub seen_stop : statement_as statement.Stop ≡ stops
seen_stop = ap statement_as (sym statement.rolls-Stop) ∙ folds.fold-roll-Statement Before BranchBefore statement_step branch_step layers.Stop

pub seen_return : statement_as statement.Return ≡ returns
seen_return = ap statement_as (sym statement.rolls-Return) ∙ folds.fold-roll-Statement Before BranchBefore statement_step branch_step layers.Return

pub seen_act : (leaf : ReadLeaf) (line : ℕ) → statement_as (statement.Act leaf line) ≡ acts (leaf_as leaf) line
seen_act leaf line = ap statement_as (sym (statement.rolls-Act leaf line)) ∙ folds.fold-roll-Statement Before BranchBefore statement_step branch_step (layers.Act leaf line)

pub seen_choose : (list : Vec branches.Branch Global) (otherwise : Option (Vec statements.Statement Global)) → statement_as (statement.Choose list otherwise) ≡ chooses (branches_as list.items (else_as otherwise))
seen_choose list None = ap statement_as (sym (statement.rolls-Choose list None)) ∙ folds.fold-roll-Statement Before BranchBefore statement_step branch_step (layers.Choose list None)
seen_choose list (Some inner) = ap statement_as (sym (statement.rolls-Choose list (Some inner))) ∙ folds.fold-roll-Statement Before BranchBefore statement_step branch_step (layers.Choose list (Some inner))

pub seen_branch : (b : branches.Branch) → branch_as b ≡ test_branch (condition_as b.condition) (commands_as b.block.items)
seen_branch b = folds.fold_out-Branch Before BranchBefore statement_step branch_step b
