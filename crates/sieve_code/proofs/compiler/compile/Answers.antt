use Rattle.std.proofs.Common.{length, sym, ap, ◌∙◌, subst}
use Rattle.sieve_check.specs.view.Checked.{commands_of}
use Rattle.sieve_script.specs.view.Script.{commands_as}
use Rattle.sieve_code.specs.Choice.{AllGoForward, commands_before, tail_of}
use Rattle.sieve_code.specs.Walk.{code_walk, gone}
use Rattle.sieve_code.proofs.Law.{code_forward, code_walks}
use Rattle.sieve_code.specs.view.Pools.{pool_as}
use Rattle.sieve_code.proofs.Placing.{code_made}
use Rattle.sieve_code.proofs.compiler.compile.Goals as goal

pub invariant_of-result : goal.invariant_of-result
invariant_of-result c =
    let script = commands_of c.args.checked in
    let tail = c.in_ok-put_commands.ensures ∙ ap (commands_before (commands_as c.into_statements.result.items)) c.new-tail.ensures ∙ ap tail_of c.into_statements.ensures in
    let made = code_made script (pool_as c.into_parts-ops.result.1) c.into_parts-ops.result.0.items c.put_commands.new.tail c.into_parts-ops.ensures tail in
    record {
      forward = subst (λ ops. AllGoForward ops) (sym made) (code_forward script);
      compiled = ∣ record {
        script = script;
        compiles = record { chosen = made; does = ap (λ ops. code_walk ops (length ops)) made ∙ code_walks script };
      } ∣₁;
    }

pub returns-clause-code : goal.returns-clause-code
returns-clause-code c =
    let script = commands_of c.args.checked in
    let tail = c.in_ok-put_commands.ensures ∙ ap (commands_before (commands_as c.into_statements.result.items)) c.new-tail.ensures ∙ ap tail_of c.into_statements.ensures in
    let made = code_made script (pool_as c.into_parts-ops.result.1) c.into_parts-ops.result.0.items c.put_commands.new.tail c.into_parts-ops.ensures tail in
    record { chosen = made; does = ap (λ ops. code_walk ops (length ops)) made ∙ code_walks script }

pub returns-clause-answers : goal.returns-clause-answers
returns-clause-answers c = λ answers.
    let script = commands_of c.args.checked in
    let tail = c.in_ok-put_commands.ensures ∙ ap (commands_before (commands_as c.into_statements.result.items)) c.new-tail.ensures ∙ ap tail_of c.into_statements.ensures in
    let made = code_made script (pool_as c.into_parts-ops.result.1) c.into_parts-ops.result.0.items c.put_commands.new.tail c.into_parts-ops.ensures tail in
    ap (λ walk. gone walk answers) (ap (λ ops. code_walk ops (length ops)) made ∙ code_walks script)
