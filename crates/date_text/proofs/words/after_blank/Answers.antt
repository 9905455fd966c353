use Rattle.std.proofs.Common.{◌<◌, length, get_or, take, drop, ◌-◌, sym, ap, ◌∙◌, arith}
use Rattle.date_text.specs.view.Words.{words_from}
use Rattle.date_text.proofs.WordLemmas.{cons_first, ended_outside, passed_closed, passed_words}
use Rattle.structured_text.specs.Structure.{comments_alone, is_closed}
use Rattle.date_text.proofs.words.after_blank.Goals as goal

pub returns-in_default-clause-none : goal.returns-in_default-clause-none
returns-in_default-clause-none c = ended_outside c.args.spot c.args.text.now (omega arith)

pub returns-clause-words : goal.returns-clause-words
returns-clause-words c =
    let text = c.args.text.now in
    let rest = take (length text - 1) (drop 1 text) in
    let some : 0 < length text = omega arith in
    ap (λ spot. words_from spot rest) c.after.ensures.is
    ∙ passed_words c.args.spot (get_or text 0 0) rest (sym c.is_word_at.ensures ∙ c.if-is_word_at.false)
    ∙ ap (words_from c.args.spot) (sym (cons_first text some))

pub returns-clause-closed : goal.returns-clause-closed
returns-clause-closed c =
    let text = c.args.text.now in
    let rest = take (length text - 1) (drop 1 text) in
    let some : 0 < length text = omega arith in
    ap (λ spot. is_closed comments_alone spot rest) c.after.ensures.is
    ∙ passed_closed c.args.spot (get_or text 0 0) rest
    ∙ ap (is_closed comments_alone c.args.spot) (sym (cons_first text some))
