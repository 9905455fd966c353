use Rattle.std.proofs.Common.{◌≡◌, ◌<◌, ap, sym, ◌∙◌, rules, ◌∷◌, take, drop}
use Rattle.session_text.specs.SessionLine.{line_words}
use Rattle.session_text.proofs.Words.{line_words-none, line_words-word, piece_length-some}
use Rattle.session_text.proofs.cutting.next_word.Goals as goal

pub returns-then-is_empty : goal.returns-then-is_empty
returns-then-is_empty c = sym c.leading_spaces.ensures.words ∙ line_words-none _ (search rules)

pub returns : goal.returns
returns c =
    let line = c.split_at.result.1.now in
    let n = c.word_len.result in
    let whole : line_words line ≡ line_words c.args.line.now = ap line_words c.split_at.ensures.back ∙ c.leading_spaces.ensures.words in
    let some : 0 < n = rw c.word_len.ensures.value (piece_length-some line (search rules) (rw c.split_at.ensures.back c.leading_spaces.ensures.stops)) in
    let word : line_words line ≡ take n line ∷ line_words (drop n line) = line_words-word line n c.word_len.ensures.value some in
    sym whole ∙ rw c.split_at-2.ensures.front (rw c.split_at-2.ensures.back word)
