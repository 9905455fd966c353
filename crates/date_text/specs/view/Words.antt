-- The program's spots and words.
use Rattle.std.specs.Prelude.{ℕ, ◌+◌, Bool, true, not, ◌&&◌, ◌==◌, List, [], ◌∷◌, option_map}
use Rattle.octets.specs.Octet.{is_white, octet_of}
use Rattle.date_text.specs.Reading.{DateWords}
use Rattle.date_text.specs.Words.{DateWord, kept, words_of}
use Rattle.date_text.specs.declared.date_words.DateSlices as slices
use Rattle.structured_text.specs.declared.state.LexerState.{LexerState}
use Rattle.structured_text.specs.declared.state.LexerState.TheVariants.{Outside}
use Rattle.structured_text.specs.Structure.{comments_alone, is_closed, is_outside}

-- the words of a text that begins in this state
abbrev pub words_from : LexerState → List ℕ → List DateWord
words_from spot text = words_of (kept spot text)

-- the words of a text whose comments are closed
abbrev pub words_in : List ℕ → List DateWord
words_in text = words_from Outside text

abbrev pub closes : List ℕ → Bool
closes text = is_closed comments_alone Outside text

-- whether an octet outside comments is one of a word
abbrev pub is_of_word : ℕ → Bool
is_of_word c = not (is_white c) && not (c == octet_of "(")

-- whether an octet in this state is one of a word
abbrev pub is_word_at : LexerState → ℕ → Bool
is_word_at spot c = is_outside spot && is_of_word c

-- whether a text has no white space and no comment before its first word
abbrev pub begins_word : List ℕ → Bool
begins_word [] = true
begins_word (c ∷ rest) = is_of_word c

-- the program's words of a date, of which those of the zone are in one text
abbrev pub date_words_as : slices.DateSlices → DateWords
date_words_as w = record {
  day = w.day.now;
  month = w.month.now;
  year = w.year.now;
  hour = w.hour.now;
  minute = w.minute.now;
  second = option_map (λ (second : _). second.now) w.second;
  zone = words_in w.zone.now;
}
