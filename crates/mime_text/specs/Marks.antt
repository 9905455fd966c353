-- A structured value with its comments and quoted strings told apart (RFC 2045, 5.1;
-- RFC 5322, 3.2.1 to 3.2.4).
use Rattle.std.specs.Prelude.{ℕ, ◌+◌, ◌-◌, ◌==◌, Bool, true, false, List, [], ◌∷◌, ◌++◌, Option, Some, None, if◌then◌else◌}
use Rattle.octets.specs.Octet.{octet_of}
use Rattle.mime_text.specs.declared.marks.ValueMark.{ValueMark}
use Rattle.mime_text.specs.declared.marks.ValueMark.TheVariants.{Plain, Quote, Quoted}
use Rattle.structured_text.specs.Structure.{after_octet, is_closed, strings_too}
use Rattle.structured_text.specs.declared.state.LexerState.{LexerState}
use Rattle.structured_text.specs.declared.state.LexerState.TheVariants.{EscapedInString, InString, Outside}

-- The marks of an octet. A comment leaves a space. A quoted string leaves its quotes and the octets
-- that it stands for.
abbrev pub marks_at : LexerState → ℕ → List ValueMark
marks_at Outside c = (if c == octet_of "\"" then Quote else Plain (if c == octet_of "(" then octet_of " " else c)) ∷ []
marks_at InString c = if c == octet_of "\"" then Quote ∷ [] else if c == octet_of "\\" then [] else Quoted c ∷ []
marks_at EscapedInString c = Quoted c ∷ []
marks_at other c = []

-- the marks of a text that begins in this state
unfoldable pub marks_from : LexerState → List ℕ → List ValueMark
marks_from spot [] = []
marks_from spot (c ∷ rest) = marks_at spot c ++ marks_from (after_octet strings_too spot c) rest

-- the marks of a text, or none where a comment or a quoted string isn't closed
abbrev pub marks_of : List ℕ → Option (List ValueMark)
marks_of text = if is_closed strings_too Outside text then Some (marks_from Outside text) else None
