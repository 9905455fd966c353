use Rattle.std.proofs.Common.{sym, ◌∙◌, subst, arith}
use Rattle.std.proofs.lemmas.List.{take_rest}
use Rattle.sieve_syntax.specs.view.Cursor.{GoesTo}
use Rattle.sieve_syntax.proofs.Finding.{goes_white}
use Rattle.sieve_syntax.proofs.cursor.skip_white.Goals as goal

pub loop-length-preserved : goal.loop-length-preserved
loop-length-preserved c =
    let low = c.loop-length.invariant.low in
    let place = c.advance-cursor.ensures.place in
    record {
      is = c.advance-cursor.ensures.is;
      low = omega arith;
      skipped = subst (GoesTo c.args.text.now c.args.cursor.place) (sym place)
          (goes_white c.args.text.now c.args.cursor.place c.loop-length.cursor.place c.in-Some.length _ (take_rest c.args.text.now c.loop-length.cursor.place)
          (sym c.white_length.ensures.value ∙ c.in-Some.is) c.loop-length.invariant.skipped);
    }
