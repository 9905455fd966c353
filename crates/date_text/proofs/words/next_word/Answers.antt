use Rattle.std.proofs.Common.{sym, ◌∙◌, arith}
use Rattle.date_text.proofs.WordLemmas.{more_fits, no_words, word_cut}
use Rattle.date_text.proofs.words.next_word.Goals as goal

pub returns-in_default-clause-is : goal.returns-in_default-clause-is
returns-in_default-clause-is c = sym c.without_blanks-text.ensures.words ∙ no_words c.without_blanks-text.result.now (omega arith)

pub overflow_add-joined_len : goal.overflow_add-joined_len
overflow_add-joined_len c =
    let fits = more_fits c.without_blanks-text.result.now c.joined_len.result (omega arith) c.joined_len.ensures in
    omega arith

pub split_at-requires : goal.split_at-requires
split_at-requires c =
    let fits = more_fits c.without_blanks-text.result.now c.joined_len.result (omega arith) c.joined_len.ensures in
    omega arith

pub returns-clause-is : goal.returns-clause-is
returns-clause-is c =
    let text = c.without_blanks-text.result.now in
    let cut = word_cut text c.joined_len.result (omega arith) c.without_blanks-text.ensures.begins c.joined_len.ensures in
    rw (c.split_at.ensures.front, c.split_at.ensures.back) (sym c.without_blanks-text.ensures.words ∙ cut.0)

pub returns-clause-closed : goal.returns-clause-closed
returns-clause-closed c =
    let text = c.without_blanks-text.result.now in
    let cut = word_cut text c.joined_len.result (omega arith) c.without_blanks-text.ensures.begins c.joined_len.ensures in
    rw c.split_at.ensures.back (cut.1 ∙ c.without_blanks-text.ensures.closed)
