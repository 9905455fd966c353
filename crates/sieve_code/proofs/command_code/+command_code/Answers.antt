use Rattle.std.proofs.Common.{◌≡◌, [], ◌∷◌, length, rules, refl, ap, sym, ◌∙◌}
use Rattle.sieve_script.specs.Script.{else_branch, no_branches, no_commands}
use Rattle.sieve_script.specs.view.Script.{branch_as, branches_as, commands_as, condition_as, else_as, statement_as}
use Rattle.sieve_code.specs.Choice.{branches_before, commands_before, condition_before}
use Rattle.sieve_code.specs.Operation.{jump_if_op}
use Rattle.sieve_code.proofs.Putting.{branch_follows, branch_put, commands_none, commands_with, else_before, no_items, none_before, on_ok_along, put_act, put_choice, put_return, put_stop, statement_more}
use Rattle.sieve_code.proofs.command_code.+command_code.Goals as goal

pub put_command-returns-in-Stop : goal.put_command-returns-in-Stop
put_command-returns-in-Stop t c = on_ok_along _ _ _ _ (put_stop c.args.statement c.args.tail.now c.in-Stop.is) c.put.ensures

pub put_command-returns-in-Return : goal.put_command-returns-in-Return
put_command-returns-in-Return t c = on_ok_along _ _ _ _ (put_return c.args.statement c.args.tail.now c.in-Return.is) c.put-in-Return.ensures

pub put_command-returns-in-Act : goal.put_command-returns-in-Act
put_command-returns-in-Act t c = on_ok_along _ _ _ _ (put_act c.args.statement c.in-Act.leaf c.in-Act.line c.args.tail.now c.in-Act.is) c.put_act.ensures

pub put_commands-loop-statement-init : goal.put_commands-loop-statement-init
put_commands-loop-statement-init t c =
    let all : c.into_iter-statement-iterator.result.rest.items ≡ c.args.commands.items = search rules in
    record {
      seen = no_commands;
      put = commands_none c.args.tail.now;
      goes_on = ap (λ l. commands_with l no_commands) all;
    }

pub put_commands-loop-statement-preserved : goal.put_commands-loop-statement-preserved
put_commands-loop-statement-preserved t c =
    let statement = c.in-Some.statement in
    let inv = c.loop-statement.invariant in
    let first : c.loop-statement.statement-iterator.rest.items ≡ statement ∷ c.next.new.self.rest.items = search rules in
    record {
      seen = statement_as statement inv.seen;
      put =
          c.in_ok-put_command.ensures
          ∙ ap (commands_before (statement_as statement no_commands)) inv.put
          ∙ sym (statement_more statement inv.seen c.args.tail.now);
      goes_on = sym (ap (λ l. commands_with l inv.seen) first) ∙ inv.goes_on;
    }

pub put_commands-returns : goal.put_commands-returns
put_commands-returns t c =
    let inv = c.loop-statement.invariant in
    let gone : length c.loop-statement.statement-iterator.rest.items ≡ 0 = search rules in
    let none : c.loop-statement.statement-iterator.rest.items ≡ [] = no_items c.loop-statement.statement-iterator.rest.items gone in
    inv.put ∙ ap (λ s. commands_before s c.args.tail.now) (sym (ap (λ l. commands_with l inv.seen) none) ∙ inv.goes_on)

pub put_branches-loop-branch-init : goal.put_branches-loop-branch-init
put_branches-loop-branch-init t c = λ others rest is count so.
    let all : c.into_iter-branch-iterator.result.rest.items ≡ c.args.branches.items = search rules in
    record {
      seen = others;
      put = so;
      follows_is = is;
      goes_on = ap (λ l. branches_as l others) all;
    }

pub put_branches-loop-branch-preserved : goal.put_branches-loop-branch-preserved
put_branches-loop-branch-preserved t c = λ others rest is count so.
    let branch = c.in-Some.branch in
    let inv = c.loop-branch.invariant others rest is count so in
    let first : c.loop-branch.branch-iterator.rest.items ≡ branch ∷ c.next.new.self.rest.items = search rules in
    record {
      seen = branch_as branch inv.seen;
      put = branch_put branch inv.seen rest c.loop-branch.tail c.put_branch.new.tail c.loop-branch.follows c.args.after inv.put inv.follows_is count c.in_ok-put_branch.ensures;
      follows_is = branch_follows branch inv.seen;
      goes_on = sym (ap (λ l. branches_as l inv.seen) first) ∙ inv.goes_on;
    }

pub put_branches-returns : goal.put_branches-returns
put_branches-returns t c = λ others rest is count so.
    let inv = c.loop-branch.invariant others rest is count so in
    let gone : length c.loop-branch.branch-iterator.rest.items ≡ 0 = search rules in
    let none : c.loop-branch.branch-iterator.rest.items ≡ [] = no_items c.loop-branch.branch-iterator.rest.items gone in
    inv.put ∙ ap (λ s. branches_before s rest) (sym (ap (λ l. branches_as l inv.seen) none) ∙ inv.goes_on)

pub put_branch-returns : goal.put_branch-returns
put_branch-returns t c =
    on_ok_along _ _ _ _
    (ap (condition_before (condition_as c.args.branch.condition))
    (c.in_ok-put.ensures
    ∙ ap (λ k. jump_if_op _ k ∷ c.put_commands.new.tail) c.in_ok-next.ensures
    ∙ ap (λ tail. jump_if_op _ (length c.args.tail.now) ∷ tail) (c.in_ok-put_commands.ensures ∙ ap (commands_before (commands_as c.args.branch.block.items)) c.in_ok-put_past.ensures)))
    c.put_condition.ensures

pub put_command-returns-in_ok-put_commands-in-Some : goal.put_command-returns-in_ok-put_commands-in-Some
put_command-returns-in_ok-put_commands-in-Some t c =
    let inner = commands_as c.in-Some.commands.items in
    on_ok_along _ _ _ _
    (ap (λ o. branches_before (branches_as c.in-Choose.branches.items (else_as o)) c.args.tail.now) (sym c.in-Some.is) ∙ put_choice c.args.statement c.in-Choose.branches c.in-Choose.otherwise c.args.tail.now c.in-Choose.is)
    (c.put_branches.ensures (else_branch inner) c.args.tail.now refl c.in_ok-after-in-Choose.ensures (c.in_ok-put_commands-in-Some.ensures ∙ else_before inner c.args.tail.now))

pub put_command-returns-in-None : goal.put_command-returns-in-None
put_command-returns-in-None t c =
    on_ok_along _ _ _ _
    (ap (λ o. branches_before (branches_as c.in-Choose.branches.items (else_as o)) c.args.tail.now) (sym c.in-None.is) ∙ put_choice c.args.statement c.in-Choose.branches c.in-Choose.otherwise c.args.tail.now c.in-Choose.is)
    (c.put_branches-in-None.ensures no_branches c.args.tail.now refl c.in_ok-after-in-Choose.ensures (none_before c.args.tail.now))
