use Rattle.std.proofs.Common.{◌≡◌, sym, subst, arith, refl, []}
use Rattle.sieve_syntax.specs.Machine.{between}
use Rattle.sieve_syntax.specs.view.Reader.{opens_value, state_value}
use Rattle.sieve_syntax.specs.view.Tree.{command_as}
use Rattle.std.proofs.Common.{map}
use Rattle.sieve_syntax.proofs.Running.{Means, start_means, next_means, stop_means, end_means, goes_small, finishes_small}
use Rattle.sieve_syntax.specs.declared.parser.SyntaxFault.TheVariants.{TooLarge}
use Rattle.sieve_syntax.proofs.parser.read_commands.Goals as goal

pub loop-token-init : goal.loop-token-init
loop-token-init c = record {
  is = record { within = omega arith; lines = refl };
  means =
      subst (λ blocks. Means c.args.text.now (between (record { blocks = opens_value blocks; done = map command_as c.new-2.result.items })) 0) (sym c.new.ensures.items)
      (subst (λ done. Means c.args.text.now (between (record { blocks = opens_value []; done = map command_as done })) 0) (sym c.new-2.ensures.items)
      (start_means c.args.text.now));
}

pub returns-in-Err-clause-exact : goal.returns-in-Err-clause-exact
returns-in-Err-clause-exact c =
    stop_means c.args.text.now (state_value c.loop-token.outer c.loop-token.state) c.loop-token.cursor.place c.in-Some.token c.in-Some.after c.in-Err.fault c.read_token.new.outer c.in-Some.ensures c.in-Err.ensures c.loop-token.invariant.means

pub loop-token-preserved : goal.loop-token-preserved
loop-token-preserved c = record {
  is = c.in-Some.ensures.is;
  means = next_means c.args.text.now (state_value c.loop-token.outer c.loop-token.state) (state_value c.read_token.new.outer c.in-Ok.next) c.loop-token.cursor.place c.in-Some.token c.in-Some.after c.in-Some.ensures c.in-Ok.ensures c.loop-token.invariant.means;
}

pub returns-clause-exact : goal.returns-clause-exact
returns-clause-exact c = end_means c.args.text.now (state_value c.loop-token.outer c.loop-token.state) c.loop-token.cursor.place c.finish.result c.in_default.ensures c.loop-token.invariant.means c.finish.ensures

pub returns-in-Err-clause-small : goal.returns-in-Err-clause-small
returns-in-Err-clause-small c = λ is.
    let large : c.in-Err.fault ≡ TooLarge = cc in
    goes_small c.read_token.new.outer c.in-Err.fault _ _ c.in-Err.ensures large

pub returns-clause-small : goal.returns-clause-small
returns-clause-small c = finishes_small c.finish.result _ _ c.finish.ensures
