use Rattle.std.proofs.Common.{◌≡◌, ◌+◌, ◌≤◌, true, length}
use Rattle.date_text.specs.view.Words.{words_from, words_in}
use Rattle.structured_text.specs.Structure.{comments_alone, depth_of, is_closed}
use Rattle.date_text.proofs.words.without_blanks.Given as goal

-- the rest has the words of the text, and its comments are closed from the spot on
abbrev pub invariant-loop-after : goal.invariant-loop-after
invariant-loop-after l = record {
  depth : depth_of l.spot + length l.left ≤ length l.text;
  words : words_from l.spot l.left ≡ words_in l.text;
  closed : is_closed comments_alone l.spot l.left ≡ true;
}

abbrev pub decreases-loop-after : goal.decreases-loop-after
decreases-loop-after l = length l.left
