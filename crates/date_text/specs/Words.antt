-- The words of a field's value (RFC 5322, 3.2.2 and 4.3). White space and comments may stand
-- between any two of them.
use Rattle.std.specs.Prelude.{ℕ, ◌+◌, ◌-◌, Bool, true, false, ◌&&◌, ◌||◌, ◌==◌, List, [], ◌∷◌, ◌++◌, Option, Some, None, if◌then◌else◌}
use Rattle.std.specs.List.{onto_first}
use Rattle.octets.specs.Octet.{is_between, is_digit, is_white, octet_of}
use Rattle.structured_text.specs.declared.state.LexerState.{LexerState}
use Rattle.structured_text.specs.declared.state.LexerState.TheVariants.{Outside}
use Rattle.structured_text.specs.Structure.{after_octet, comments_alone, is_closed}

-- COMMENTS

-- the octets that stay of one: outside comments itself, and of a comment a space
abbrev pub kept_of : LexerState → ℕ → List ℕ
kept_of Outside c = (if c == octet_of "(" then octet_of " " else c) ∷ []
kept_of other c = []

-- the octets that stay of a text that begins in this state
unfoldable pub kept : LexerState → List ℕ → List ℕ
kept spot [] = []
kept spot (c ∷ rest) = kept_of spot c ++ kept (after_octet comments_alone spot c) rest

-- a text with a space for each comment, or none where one isn't closed (RFC 5322, 3.2.2 and 4.3)
abbrev pub without_comments : List ℕ → Option (List ℕ)
without_comments text = if is_closed comments_alone Outside text then Some (kept Outside text) else None

-- WORDS

abbrev pub DateWord : Type 0
DateWord = List ℕ

-- a letter: ALPHA (RFC 5234, appendix B.1)
abbrev pub is_letter : ℕ → Bool
is_letter c = is_between (octet_of "a") (octet_of "z") c || is_between (octet_of "A") (octet_of "Z") c

-- whether two octets side by side are of one word: letters, or digits
abbrev pub is_joined : ℕ → ℕ → Bool
is_joined c d = (is_letter c && is_letter d) || (is_digit c && is_digit d)

abbrev pub is_joined_to : ℕ → List ℕ → Bool
is_joined_to c [] = false
is_joined_to c (d ∷ rest) = is_joined c d

-- the words of an octet and a text after it, by the words of that text
abbrev pub word_before : ℕ → (joined : Bool) → List DateWord → List DateWord
word_before c joined words =
    if is_white c then words
    else if joined then onto_first c words
    else (c ∷ []) ∷ words

-- words: runs of letters, runs of digits, and each other octet but white space
unfoldable pub words_of : List ℕ → List DateWord
words_of [] = []
words_of (c ∷ rest) = word_before c (is_joined_to c rest) (words_of rest)
