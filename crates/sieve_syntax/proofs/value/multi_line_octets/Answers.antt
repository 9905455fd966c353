use Rattle.std.proofs.Common.{◌++◌, false, sym, ap, ◌∙◌, arith, length}
use Rattle.std.proofs.lemmas.List.{take_rest, length-drop}
use Rattle.sieve_syntax.specs.Value.{multi_line_octets, with_cr}
use Rattle.sieve_syntax.proofs.Values.{joins_stop, joins_on, joins_end}
use Rattle.sieve_syntax.proofs.value.multi_line_octets.Goals as goal

pub returns-then-is_dot_line : goal.returns-then-is_dot_line
returns-then-is_dot_line c =
    joins_stop c.args.symbol.now c.loop-place.octets.items (multi_line_octets c.args.symbol.now) c.loop-place.place c.line_length.result c.loop-place-test.true
    c.line_length.ensures.value (sym c.is_dot_line.ensures ∙ c.if-is_dot_line.true) c.loop-place.invariant.same

pub loop-place-preserved : goal.loop-place-preserved
loop-place-preserved c =
    let inside = c.line_length.ensures.inside in
    let rest = ap length (take_rest c.args.symbol.now c.loop-place.place) ∙ length-drop c.loop-place.place c.args.symbol.now in
    let within = c.loop-place.invariant.within in
    record {
      within = omega arith;
      same = joins_on c.args.symbol.now c.loop-place.octets.items c.push_with_cr.new.out.items (multi_line_octets c.args.symbol.now) c.loop-place.place c.line_length.result c.loop-place-test.true
          c.line_length.ensures.value (sym c.is_dot_line.ensures ∙ c.if-is_dot_line.false)
          (c.in_ok-push_with_cr.ensures ∙ ap (λ x. c.loop-place.octets.items ++ with_cr false x) c.without_dot.ensures)
          c.loop-place.invariant.same;
    }

pub returns : goal.returns
returns c = joins_end c.args.symbol.now c.loop-place.octets.items (multi_line_octets c.args.symbol.now) c.loop-place.place c.loop-place-test.false c.loop-place.invariant.same
