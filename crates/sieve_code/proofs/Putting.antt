-- The operations that single steps of the compiler put before a tail.
use Rattle.std.proofs.Common.{◌≡◌, ℕ, ◌<◌, ◌≤◌, Bool, true, false, not, List, [], ◌∷◌, length, map, if◌then◌else◌, Option, Result, OnOk, refl, sym, ap, ◌∙◌, subst, arith}
use Rattle.std.specs.declared.alloc.Global.{Global}
use Rattle.std.specs.declared.boxed.Box.{Box}
use Rattle.std.specs.declared.vec.Vec.{Vec}
use Rattle.sieve_script.specs.Script.{Condition, Conditions, no_conditions, one_condition, Commands, no_commands, Branches, no_branches, else_branch, test_branch}
use Rattle.sieve_script.specs.view.Reading.{ReadAsk, ReadLeaf, ask_as, leaf_as}
use Rattle.sieve_script.specs.view.Script.{Before, BranchBefore, branch_as, branch_step, branches_as, commands_as, condition_as, conditions_as, else_as, put_each, statement_as, statement_step}
use Rattle.sieve_script.specs.declared.script.Branch as declared_branches
use Rattle.sieve_script.specs.declared.script.Condition as declared_conditions
use Rattle.sieve_script.specs.declared.script.Condition.TheVariants as condition
use Rattle.sieve_script.specs.declared.script.Statement as statements
use Rattle.sieve_script.specs.declared.script.Statement.TheFolds as folds
use Rattle.sieve_script.specs.declared.script.Statement.TheOpen as layers
use Rattle.sieve_script.specs.declared.script.Statement.TheVariants as statement
use Rattle.sieve_script.proofs.ScriptSeen.{seen_act, seen_all, seen_always, seen_any, seen_asks, seen_branch, seen_choose, seen_never, seen_not, seen_return, seen_stop}
use Rattle.sieve_code.specs.Choice.{Tail, branches_before, commands_before, condition_before, joined_before, list_before}
use Rattle.sieve_code.specs.Operation.{set_op, invert_op, test_op, jump_if_op, act_op, stop_op, return_op}
use Rattle.sieve_code.specs.view.Branches.{branch_before, has_branch}

-- the tail after a step that succeeds may be said as any tail that is equal to it
pub on_ok_along : {T E X : Type 0} (r : Result T E) (a b c : X) → b ≡ c → OnOk r (a ≡ b) → OnOk r (a ≡ c)
on_ok_along r a b c same h = subst (λ x. OnOk r (a ≡ x)) same h

-- a list without items is empty
pub no_items : {X : Type 0} (xs : List X) → length xs ≡ 0 → xs ≡ []
no_items [] none = refl
no_items (x ∷ xs) none = absurd (omega (arith, none))

-- CONDITIONS

-- one condition, by its kind
pub put_always : (c : declared_conditions.Condition) (after : Tail) → c ≡ condition.Always → set_op true ∷ after ≡ condition_before (condition_as c) after
unfolding condition_before
put_always c after is = sym (ap (λ x. condition_before x after) (ap condition_as is ∙ seen_always))

pub put_never : (c : declared_conditions.Condition) (after : Tail) → c ≡ condition.Never → set_op false ∷ after ≡ condition_before (condition_as c) after
unfolding condition_before
put_never c after is = sym (ap (λ x. condition_before x after) (ap condition_as is ∙ seen_never))

pub put_asks : (c : declared_conditions.Condition) (ask : ReadAsk) (after : Tail) → c ≡ condition.Asks ask → test_op (ask_as ask) ∷ after ≡ condition_before (condition_as c) after
unfolding condition_before
put_asks c ask after is = sym (ap (λ x. condition_before x after) (ap condition_as is ∙ seen_asks ask))

pub put_not : (c : declared_conditions.Condition) (b : Box declared_conditions.Condition Global) (inner : declared_conditions.Condition) (after : Tail) → c ≡ condition.Not b → inner ≡ b.value → condition_before (condition_as inner) (invert_op ∷ after) ≡ condition_before (condition_as c) after
unfolding condition_before
put_not c b inner after is same = ap (λ x. condition_before (condition_as x) (invert_op ∷ after)) same ∙ sym (ap (λ x. condition_before x after) (ap condition_as is ∙ seen_not b))

pub put_all : (c : declared_conditions.Condition) (list : Vec declared_conditions.Condition Global) (after : Tail) → c ≡ condition.All list → joined_before false (conditions_as list.items) after ≡ condition_before (condition_as c) after
unfolding condition_before
put_all c list after is = sym (ap (λ x. condition_before x after) (ap condition_as is ∙ seen_all list))

pub put_any : (c : declared_conditions.Condition) (list : Vec declared_conditions.Condition Global) (after : Tail) → c ≡ condition.Any list → joined_before true (conditions_as list.items) after ≡ condition_before (condition_as c) after
unfolding condition_before
put_any c list after is = sym (ap (λ x. condition_before x after) (ap condition_as is ∙ seen_any list))

-- whether there is a condition
abbrev pub has_condition : Conditions → Bool
has_condition no_conditions = false
has_condition (one_condition c cs) = true

-- The conditions that have been put, and those that are left in front of them. The next of those
-- that are left comes first.
abbrev pub conditions_with : List declared_conditions.Condition → Conditions → Conditions
conditions_with left seen = put_each one_condition (map condition_as left) seen

-- Some of all conditions were put before a tail. Those that are left stand in front of them.
pub record ConditionsPut (truth : Bool) (tail old : Tail) (follows : Bool) (left : List declared_conditions.Condition) (all : Conditions) : Type 0 where
  pub seen : Conditions
  pub put : tail ≡ list_before truth seen old
  pub follows_is : follows ≡ has_condition seen
  pub goes_on : conditions_with left seen ≡ all

-- a condition is put before those that have been put
pub condition_put : (truth : Bool) (c : Condition) (seen : Conditions) (after tail new : Tail) (follows : Bool) → tail ≡ list_before truth seen after → follows ≡ has_condition seen
    → new ≡ condition_before c (if follows then jump_if_op truth (length after) ∷ tail else tail) → new ≡ list_before truth (one_condition c seen) after
unfolding list_before
condition_put truth c no_conditions after tail new follows so is made =
    made ∙ ap (λ b. condition_before c (if b then jump_if_op truth (length after) ∷ tail else tail)) is ∙ ap (condition_before c) so
condition_put truth c (one_condition d ds) after tail new follows so is made =
    made ∙ ap (λ b. condition_before c (if b then jump_if_op truth (length after) ∷ tail else tail)) is ∙ ap (λ t. condition_before c (jump_if_op truth (length after) ∷ t)) so

pub list_none : (truth : Bool) (after : Tail) → after ≡ list_before truth no_conditions after
unfolding list_before
list_none truth after = refl

pub joined_empty : (truth : Bool) (list : List declared_conditions.Condition) (after : Tail) → length list ≤ 0 → set_op (not truth) ∷ after ≡ joined_before truth (conditions_as list) after
unfolding joined_before
joined_empty truth [] after none = refl
joined_empty truth (c ∷ list) after none = absurd (omega (arith, none))

all_joined : (truth : Bool) (left : List Condition) (c : Condition) (seen : Conditions) (after : Tail) → list_before truth (put_each one_condition left (one_condition c seen)) after ≡ joined_before truth (put_each one_condition left (one_condition c seen)) after
unfolding list_before joined_before
all_joined truth [] c seen after = refl
all_joined truth (d ∷ left) c seen after = all_joined truth left d (one_condition c seen) after

pub joined_some : (truth : Bool) (list : List declared_conditions.Condition) (after : Tail) → 0 < length list → list_before truth (conditions_as list) after ≡ joined_before truth (conditions_as list) after
joined_some truth [] after some = absurd (omega (arith, some))
joined_some truth (c ∷ list) after some = all_joined truth (map condition_as list) (condition_as c) no_conditions after

-- COMMANDS

-- The commands that have been put, and those that are left in front of them. The next of those that
-- are left comes first.
abbrev pub commands_with : List statements.Statement → Commands → Commands
commands_with left seen = put_each (λ (before : Before). before) (map statement_as left) seen

pub commands_none : (after : Tail) → after ≡ commands_before no_commands after
unfolding commands_before
commands_none after = refl

-- the operations that a command puts before a tail
pub put_stop : (s : statements.Statement) (after : Tail) → s ≡ statement.Stop → stop_op ∷ after ≡ commands_before (statement_as s no_commands) after
unfolding commands_before
put_stop s after is = sym (ap (λ (f : Before). commands_before (f no_commands) after) (ap statement_as is ∙ seen_stop))

pub put_return : (s : statements.Statement) (after : Tail) → s ≡ statement.Return → return_op ∷ after ≡ commands_before (statement_as s no_commands) after
unfolding commands_before
put_return s after is = sym (ap (λ (f : Before). commands_before (f no_commands) after) (ap statement_as is ∙ seen_return))

pub put_act : (s : statements.Statement) (leaf : ReadLeaf) (line : ℕ) (after : Tail) → s ≡ statement.Act leaf line → act_op (leaf_as leaf) line ∷ after ≡ commands_before (statement_as s no_commands) after
unfolding commands_before
put_act s leaf line after is = sym (ap (λ (f : Before). commands_before (f no_commands) after) (ap statement_as is ∙ seen_act leaf line))

pub put_choice : (s : statements.Statement) (list : Vec declared_branches.Branch Global) (otherwise : Option (Vec statements.Statement Global)) (after : Tail) → s ≡ statement.Choose list otherwise → branches_before (branches_as list.items (else_as otherwise)) after ≡ commands_before (statement_as s no_commands) after
unfolding commands_before
put_choice s list otherwise after is = sym (ap (λ (f : Before). commands_before (f no_commands) after) (ap statement_as is ∙ seen_choose list otherwise))

-- a command before others: its operations stand before theirs
variant_more : (s : statements.Statement) (cs : Commands) (after : Tail) (made : Before) → statement_as s ≡ made → commands_before (made cs) after ≡ commands_before (made no_commands) (commands_before cs after) → commands_before (statement_as s cs) after ≡ commands_before (statement_as s no_commands) (commands_before cs after)
variant_more s cs after made is so =
    ap (λ (f : Before). commands_before (f cs) after) is ∙ so ∙ sym (ap (λ (f : Before). commands_before (f no_commands) (commands_before cs after)) is)

layer_more : (l : layers.Statement-F Before BranchBefore) (cs : Commands) (after : Tail) → commands_before (statement_step l cs) after ≡ commands_before (statement_step l no_commands) (commands_before cs after)
unfolding commands_before
layer_more layers.Stop cs after = refl
layer_more layers.Return cs after = refl
layer_more (layers.Act leaf line) cs after = refl
layer_more (layers.Choose list otherwise) cs after = refl

pub statement_more : (s : statements.Statement) (cs : Commands) (after : Tail) → commands_before (statement_as s cs) after ≡ commands_before (statement_as s no_commands) (commands_before cs after)
statement_more s cs after = variant_more s cs after _ (folds.fold_out-Statement Before BranchBefore statement_step branch_step s) (layer_more _ cs after)

-- Some of all commands were put before a tail. Those that are left stand in front of them.
pub record CommandsPut (tail old : Tail) (left : List statements.Statement) (all : Commands) : Type 0 where
  pub seen : Commands
  pub put : tail ≡ commands_before seen old
  pub goes_on : commands_with left seen ≡ all

-- BRANCHES

pub none_before : (after : Tail) → after ≡ branches_before no_branches after
unfolding branches_before
none_before after = refl

pub else_before : (inner : Commands) (after : Tail) → commands_before inner after ≡ branches_before (else_branch inner) after
unfolding branches_before
else_before inner after = refl

-- Some of all branches were put before a tail. Those that are left stand in front of them.
pub record BranchesPut (tail old : Tail) (follows : Bool) (left : List declared_branches.Branch) (all : Branches) : Type 0 where
  pub seen : Branches
  pub put : tail ≡ branches_before seen old
  pub follows_is : follows ≡ has_branch seen
  pub goes_on : branches_as left seen ≡ all

put_by : (c : Condition) (inner : Commands) (seen : Branches) (old : Tail) → branch_before c inner (has_branch seen) (length old) (branches_before seen old) ≡ branches_before (test_branch c inner seen) old
unfolding branches_before
put_by c inner no_branches old = refl
put_by c inner (else_branch other) old = refl
put_by c inner (test_branch d other others) old = refl

-- a branch is put before those that have been put
pub branch_put : (b : declared_branches.Branch) (seen : Branches) (old tail new : Tail) (follows : Bool) (after : ℕ) → tail ≡ branches_before seen old → follows ≡ has_branch seen → after ≡ length old
    → new ≡ branch_before (condition_as b.condition) (commands_as b.block.items) follows after tail → new ≡ branches_before (branch_as b seen) old
branch_put b seen old tail new follows after so is count made =
    made
    ∙ ap (λ f. branch_before (condition_as b.condition) (commands_as b.block.items) f after tail) is
    ∙ ap (λ n. branch_before (condition_as b.condition) (commands_as b.block.items) (has_branch seen) n tail) count
    ∙ ap (branch_before (condition_as b.condition) (commands_as b.block.items) (has_branch seen) (length old)) so
    ∙ put_by (condition_as b.condition) (commands_as b.block.items) seen old
    ∙ sym (ap (λ (f : BranchBefore). branches_before (f seen) old) (seen_branch b))

pub branch_follows : (b : declared_branches.Branch) (seen : Branches) → true ≡ has_branch (branch_as b seen)
branch_follows b seen = sym (ap (λ (f : BranchBefore). has_branch (f seen)) (seen_branch b))
