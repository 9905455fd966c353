use Rattle.std.proofs.Common.{◌+◌, ◌<◌, length, slice_range, arith, below_more}
use Rattle.std.proofs.lemmas.Bool.{eqb-false, iff_false}
use Rattle.match_text.specs.Comparator.{ascii_casemap}
use Rattle.match_text.proofs.Places.{IsPart-none, length-slice, stands_nowhere_ahead}
use Rattle.match_text.proofs.comparators.AsciiCasemapComparator.contains.Goals as goal

pub returns-then-value-start : goal.returns-then-value-start
returns-then-value-start c =
    let value = c.args.value.now in
    let key = c.args.key.now in
    IsPart-none ascii_casemap value key (c.loop-ahead.from + c.in-Some.ahead) (omega arith)
    (stands_nowhere_ahead ascii_casemap value key c.loop-ahead.from c.in-Some.ahead (omega arith) c.loop-ahead.invariant.1 c.in-Some.ensures.0.before)

pub loop-ahead-preserved : goal.loop-ahead-preserved
loop-ahead-preserved c =
    let value = c.args.value.now in
    let key = c.args.key.now in
    let from = c.loop-ahead.from in
    let some : 0 < length key = grind (arith, eqb-false) in
    let rest = length-slice value from (length value) c.loop-ahead.invariant.0 (omega arith) in (
      omega (arith, c.in-Some.ensures.0.high),
      below_more _ _
          (stands_nowhere_ahead ascii_casemap value key from c.in-Some.ahead some c.loop-ahead.invariant.1 c.in-Some.ensures.0.before)
          (iff_false c.is.ensures c.if-is.false),
    )

pub returns : goal.returns
returns c =
    let value = c.args.value.now in
    let key = c.args.key.now in
    let from = c.loop-ahead.from in
    let some : 0 < length key = grind (arith, eqb-false) in
    let rest = length-slice value from (length value) c.loop-ahead.invariant.0 (omega arith) in
    IsPart-none ascii_casemap value key (from + length (slice_range value from (length value))) (omega arith)
    (stands_nowhere_ahead ascii_casemap value key from _ some c.loop-ahead.invariant.1 c.in_default.ensures)
