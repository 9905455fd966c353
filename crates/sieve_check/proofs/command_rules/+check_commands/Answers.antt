use Rattle.std.proofs.Common.{◌≡◌, [], ◌∷◌, map, rules, arith, sym, ap, ◌∙◌, subst}
use Rattle.std.proofs.lemmas.Grind.{common_steps}
use Rattle.sieve_syntax.specs.Tree.{command_list}
use Rattle.sieve_syntax.specs.view.Tree.{argument_of, block_of, command_as}
use Rattle.sieve_syntax.specs.declared.tree.Command.{out-Command}
use Rattle.sieve_check.specs.Breach.{breaches_in}
use Rattle.sieve_check.specs.CheckFault.{IsFirst}
use Rattle.sieve_check.specs.Context.{after_kind, past_commands}
use Rattle.sieve_check.specs.Element.{command_elements, command_list_elements}
use Rattle.sieve_check.specs.Script.{chain_of}
use Rattle.sieve_check.specs.view.Context.{at_spot}
use Rattle.sieve_script.specs.view.Reading.{command_reading_as}
use Rattle.sieve_script.specs.view.Script.{commands_as, condition_as, script_before}
use Rattle.sieve_check.proofs.Walk.{block_ends, block_moves, block_reads, block_stops, commands_end, commands_go_on, commands_more, commands_move, commands_moved, commands_read, commands_stop, inner_commands, none_inside, some_inside}
use Rattle.sieve_check.proofs.command_rules.+check_commands.Goals as goal
use Rattle.sieve_check.proofs.command_rules.+check_commands.Goals.{check_command-in-None, check_command-in-Some}

pub check_command-returns-in_err-block-clause-found : goal.check_command-returns-in_err-block-clause-found
check_command-returns-in_err-block-clause-found t c =
    let whole = c.args.command in let context = at_spot c.args.spot c.args.scope.now in let o = out-Command whole in
    let commands = c.match-block-2.commands in
    let inside : command_list (map command_as commands.items) ≡ inner_commands (block_of o.block) =
    elim c.match-block-2.branch [
      | check_command-in-Some w ↦ some_inside o.block w.in-Some.commands commands w.in-Some.is w.commands-is
      | check_command-in-None w ↦ none_inside o.block w.new-commands.result commands w.in-None.is w.new-commands.ensures.items w.commands-is
    ] in
    let goes = c.in_ok-next.ensures.goes ∙ ap (λ k. after_kind context k (map argument_of o.args.items)) (sym c.in_ok-head.ensures.kind) in
    let stopped : IsFirst (breaches_in (command_elements context (command_as whole))) c.in_err-block.field-0.0 =
    block_stops whole context c.in_ok-next.field-0.next c.inside.result c.check_front.new.scope commands.items goes c.inside.ensures inside c.in_err-block.field-0.0 c.in_ok-head.ensures.found c.in_ok-next.ensures.found c.in_err-block.ensures.found in
    grind (arith, stopped)

pub check_command-returns-clause-found : goal.check_command-returns-clause-found
check_command-returns-clause-found t c =
    let whole = c.args.command in let context = at_spot c.args.spot c.args.scope.now in let o = out-Command whole in
    let commands = c.match-block-2.commands in
    let inside : command_list (map command_as commands.items) ≡ inner_commands (block_of o.block) =
    elim c.match-block-2.branch [
      | check_command-in-Some w ↦ some_inside o.block w.in-Some.commands commands w.in-Some.is w.commands-is
      | check_command-in-None w ↦ none_inside o.block w.new-commands.result commands w.in-None.is w.new-commands.ensures.items w.commands-is
    ] in
    let goes = c.in_ok-next.ensures.goes ∙ ap (λ k. after_kind context k (map argument_of o.args.items)) (sym c.in_ok-head.ensures.kind) in
    block_ends whole context c.in_ok-next.field-0.next c.inside.result c.check_front.new.scope commands.items goes c.inside.ensures inside c.in_ok-head.ensures.found c.in_ok-next.ensures.found c.in_ok-block.ensures.found

pub check_command-returns-clause-goes : goal.check_command-returns-clause-goes
check_command-returns-clause-goes t c =
    let whole = c.args.command in let context = at_spot c.args.spot c.args.scope.now in let o = out-Command whole in
    let commands = c.match-block-2.commands in
    let inside : command_list (map command_as commands.items) ≡ inner_commands (block_of o.block) =
    elim c.match-block-2.branch [
      | check_command-in-Some w ↦ some_inside o.block w.in-Some.commands commands w.in-Some.is w.commands-is
      | check_command-in-None w ↦ none_inside o.block w.new-commands.result commands w.in-None.is w.new-commands.ensures.items w.commands-is
    ] in
    let goes = c.in_ok-next.ensures.goes ∙ ap (λ k. after_kind context k (map argument_of o.args.items)) (sym c.in_ok-head.ensures.kind) in
    block_moves whole context c.in_ok-next.field-0.next c.inside.result c.check_front.new.scope commands.items goes c.inside.ensures inside c.check_commands.new.scope c.in_ok-block.ensures.goes

pub check_command-returns-clause-read : goal.check_command-returns-clause-read
check_command-returns-clause-read t c =
    let whole = c.args.command in let context = at_spot c.args.spot c.args.scope.now in let o = out-Command whole in
    let commands = c.match-block-2.commands in
    let inside : command_list (map command_as commands.items) ≡ inner_commands (block_of o.block) =
    elim c.match-block-2.branch [
      | check_command-in-Some w ↦ some_inside o.block w.in-Some.commands commands w.in-Some.is w.commands-is
      | check_command-in-None w ↦ none_inside o.block w.new-commands.result commands w.in-None.is w.new-commands.ensures.items w.commands-is
    ] in
    let goes = c.in_ok-next.ensures.goes ∙ ap (λ k. after_kind context k (map argument_of o.args.items)) (sym c.in_ok-head.ensures.kind) in
    block_reads whole context c.in_ok-next.field-0.next c.inside.result c.check_front.new.scope commands.items goes c.inside.ensures inside
    c.in_ok-head.head.kind (command_reading_as c.in_ok-next.field-0.reading) (condition_as c.in_ok-next.field-0.condition) (commands_as c.in_ok-block.block.items)
    c.in_ok-head.ensures.kind c.in_ok-next.ensures.reading c.in_ok-next.ensures.condition c.in_ok-block.ensures.read

pub check_commands-returns-in_err-next-clause-found : goal.check_commands-returns-in_err-next-clause-found
check_commands-returns-in_err-next-clause-found t c =
    let here = at_spot c.loop-command.spot c.loop-command.scope in let all = c.loop-command.command-iterator.rest.items in let rest = c.next.new.self.rest.items in
    let was : all ≡ c.in-Some.command ∷ rest = search rules in
    let stopped : IsFirst (breaches_in (command_list_elements (at_spot c.args.start c.args.scope.now) (command_list (map command_as c.args.commands.items)))) c.in_err-next.field-0.0 =
    subst (λ bs. IsFirst bs c.in_err-next.field-0.0) c.loop-command.invariant.found (commands_stop here all rest c.in-Some.command was c.in_err-next.field-0.0 c.in_err-next.ensures.found) in
    grind (arith, stopped)

pub check_commands-loop-command-preserved : goal.check_commands-loop-command-preserved
check_commands-loop-command-preserved t c =
    let here = at_spot c.loop-command.spot c.loop-command.scope in let all = c.loop-command.command-iterator.rest.items in let rest = c.next.new.self.rest.items in
    let was : all ≡ c.in-Some.command ∷ rest = search rules in
    let next = at_spot c.in_ok-next.field-0.next c.check_command.new.scope in let goes = c.in_ok-next.ensures.goes in
    let chain = chain_of next (command_list (map command_as rest)) in record {
      found = commands_go_on here all rest c.in-Some.command was next goes c.in_ok-next.ensures.found ∙ c.loop-command.invariant.found;
      goes = commands_move here all rest c.in-Some.command was next goes ∙ c.loop-command.invariant.goes;
      read =
          c.in_ok-script-2.ensures chain
          ∙ ap (script_before c.loop-command.script) (c.in_ok-next.ensures.read chain ∙ sym (commands_more here all rest c.in-Some.command was next goes))
          ∙ c.loop-command.invariant.read;
    }

pub check_commands-returns-clause-found : goal.check_commands-returns-clause-found
check_commands-returns-clause-found t c =
    let here = at_spot c.loop-command.spot c.loop-command.scope in
    let none : c.loop-command.command-iterator.rest.items ≡ [] = grind (arith, common_steps) in
    sym c.loop-command.invariant.found ∙ ap (λ l. breaches_in (command_list_elements here (command_list (map command_as l)))) none ∙ commands_end here

pub check_commands-returns-clause-goes : goal.check_commands-returns-clause-goes
check_commands-returns-clause-goes t c =
    let here = at_spot c.loop-command.spot c.loop-command.scope in
    let none : c.loop-command.command-iterator.rest.items ≡ [] = grind (arith, common_steps) in
    ap (λ w. w.scope) (sym (sym c.loop-command.invariant.goes ∙ ap (λ l. past_commands here (command_list (map command_as l))) none ∙ commands_moved here))

pub check_commands-returns-clause-read : goal.check_commands-returns-clause-read
check_commands-returns-clause-read t c =
    let here = at_spot c.loop-command.spot c.loop-command.scope in
    let none : c.loop-command.command-iterator.rest.items ≡ [] = grind (arith, common_steps) in
    c.in_ok-finished.ensures
    ∙ ap (script_before c.loop-command.script) (sym (ap (λ l. chain_of here (command_list (map command_as l))) none ∙ commands_read here))
    ∙ c.loop-command.invariant.read
