-- The state of a lexer after each octet of a structured value (RFC 5322, 3.2 and 3.4.1).
use Rattle.std.specs.Prelude.{ℕ, ◌+◌, ◌-◌, ◌==◌, ◌&&◌, Bool, true, false, List, [], ◌∷◌, if◌then◌else◌}
use Rattle.octets.specs.Octet.{octet_of}
use Rattle.structured_text.specs.declared.state.Brackets.{Brackets}
use Rattle.structured_text.specs.declared.state.LexerState.{LexerState}
use Rattle.structured_text.specs.declared.state.LexerState.TheVariants.{Outside, InComment, EscapedInComment, InString, EscapedInString, InLiteral, EscapedInLiteral}

-- the constructs of a date, which has comments alone (RFC 5322, 3.3 and 4.3)
abbrev pub comments_alone : Brackets
comments_alone = record { strings = false; literals = false }

-- the constructs of a content type (RFC 2045, 5.1)
abbrev pub strings_too : Brackets
strings_too = record { strings = true; literals = false }

-- the constructs of a list of addresses (RFC 5322, 3.4)
abbrev pub all_brackets : Brackets
all_brackets = record { strings = true; literals = true }

-- the state after an octet outside of all constructs
abbrev pub opened_by : Brackets → ℕ → LexerState
opened_by brackets c =
    if c == octet_of "(" then InComment 0
    else if brackets.strings && c == octet_of "\"" then InString
    else if brackets.literals && c == octet_of "[" then InLiteral
    else Outside

-- The state after an octet of a comment that so many others are around. Comments nest. A `\`
-- protects the octet after it (RFC 5322, 3.2.1 and 3.2.2).
abbrev pub comment_after : (others : ℕ) → ℕ → LexerState
comment_after others c =
    if c == octet_of "(" then InComment (others + 1)
    else if c == octet_of ")" then (if others == 0 then Outside else InComment (others - 1))
    else if c == octet_of "\\" then EscapedInComment others
    else InComment others

-- the state after an octet of a quoted string (RFC 5322, 3.2.4)
abbrev pub string_after : ℕ → LexerState
string_after c = if c == octet_of "\"" then Outside else if c == octet_of "\\" then EscapedInString else InString

-- the state after an octet of a domain literal (RFC 5322, 3.4.1 and 4.4)
abbrev pub literal_after : ℕ → LexerState
literal_after c = if c == octet_of "]" then Outside else if c == octet_of "\\" then EscapedInLiteral else InLiteral

-- the state after an octet
abbrev pub after_octet : Brackets → LexerState → ℕ → LexerState
after_octet brackets Outside c = opened_by brackets c
after_octet brackets (InComment others) c = comment_after others c
after_octet brackets (EscapedInComment others) c = InComment others
after_octet brackets InString c = string_after c
after_octet brackets EscapedInString c = InString
after_octet brackets InLiteral c = literal_after c
after_octet brackets EscapedInLiteral c = InLiteral

abbrev pub is_outside : LexerState → Bool
is_outside Outside = true
is_outside other = false

-- whether each construct of a text that begins in this state is closed
unfoldable pub is_closed : Brackets → LexerState → List ℕ → Bool
is_closed brackets state [] = is_outside state
is_closed brackets state (c ∷ rest) = is_closed brackets (after_octet brackets state c) rest

-- the number of comments that are open in a state
abbrev pub depth_of : LexerState → ℕ
depth_of (InComment others) = others + 1
depth_of (EscapedInComment others) = others + 1
depth_of other = 0
