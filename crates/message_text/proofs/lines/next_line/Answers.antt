use Rattle.std.proofs.Common.{◌≡◌, ◌+◌, ◌<◌, ℕ, List, length, drop, slice_range, arith}
use Rattle.std.proofs.lemmas.Bool.Decides.{nat_tests}
use Rattle.std.proofs.lemmas.List.{take_rest}
use Rattle.message_text.proofs.LineLemmas.{first_to_end, first_to_feed}
use Rattle.message_text.proofs.lines.next_line.Goals as goal

pub returns-in-Some-clause-lines : goal.returns-in-Some-clause-lines
returns-in-Some-clause-lines c =
    let text : List ℕ = c.args.text.now in
    let len : ℕ = c.in-Some.len in
    let found = c.in-Some.ensures in
    let rest : slice_range text (len + 1) (length text) ≡ drop (len + 1) text = take_rest text (len + 1) in
    rw rest (first_to_feed text len _ found.0.before found.0.high found.1 c.without_return.ensures)

pub returns-in-None-clause-lines : goal.returns-in-None-clause-lines
returns-in-None-clause-lines c =
    let text : List ℕ = c.args.text.now in
    let rest : slice_range text (length text) (length text) ≡ drop (length text) text = take_rest text (length text) in
    let some : 0 < length text = grind (arith, nat_tests) in
    rw rest (first_to_end text some c.in-None.ensures)
