use Rattle.std.proofs.Common.{◌<◌, length, drop, sym, ap, ◌∙◌, arith}
use Rattle.std.proofs.lemmas.List.{take_rest, length-drop}
use Rattle.sieve_syntax.specs.Scan.{longest_at}
use Rattle.sieve_syntax.proofs.Finding.{end_next, good_next, bad_next}
use Rattle.sieve_syntax.proofs.Longest.{found_bounds}
use Rattle.sieve_syntax.proofs.cursor.next_token.Goals as goal

pub returns-then-cursor-text : goal.returns-then-cursor-text
returns-then-cursor-text c = end_next c.args.text.now c.args.cursor.place c.skip_white-cursor.result.place c.skip_white-cursor.ensures.skipped c.if-cursor-text.true

pub make_token-requires-clause-some : goal.make_token-requires-clause-some
make_token-requires-clause-some c = (found_bounds _ _ (sym c.longest_spelling.ensures ∙ c.in-Some.is)).0

pub make_token-requires-clause-inside : goal.make_token-requires-clause-inside
make_token-requires-clause-inside c =
    let text = c.args.text.now in
    let place = c.skip_white-cursor.result.place in
    let bound = (found_bounds (drop place text) (c.in-Some.kind, c.in-Some.length) (ap longest_at (sym (take_rest text place)) ∙ sym c.longest_spelling.ensures ∙ c.in-Some.is)).1 in
    let len = length-drop place text in
    let within = c.skip_white-cursor.ensures.is.within in
    omega arith

pub returns-in-Some : goal.returns-in-Some
returns-in-Some c =
    good_next c.args.text.now c.args.cursor.place c.skip_white-cursor.result c.make_token.result.1 c.make_token.result.0 c.in-Some.kind c.in-Some.length _
    (take_rest c.args.text.now c.skip_white-cursor.result.place) (sym c.longest_spelling.ensures ∙ c.in-Some.is)
    c.skip_white-cursor.ensures.is c.make_token.ensures.is c.skip_white-cursor.ensures.low c.skip_white-cursor.ensures.skipped
    c.make_token.ensures.token c.make_token.ensures.place

pub returns-in-None : goal.returns-in-None
returns-in-None c =
    let within = c.skip_white-cursor.ensures.is.within in
    let less : c.skip_white-cursor.result.place < length c.args.text.now = omega arith in
    bad_next c.args.text.now c.args.cursor.place c.skip_white-cursor.result c.make_token-in-None.result.1 c.make_token-in-None.result.0 _
    (take_rest c.args.text.now c.skip_white-cursor.result.place) (sym c.longest_spelling.ensures ∙ c.in-None.is) c.skip_white-cursor.ensures.bare
    less c.make_token-in-None.ensures.is c.skip_white-cursor.ensures.low c.skip_white-cursor.ensures.skipped
    c.make_token-in-None.ensures.token c.make_token-in-None.ensures.place
