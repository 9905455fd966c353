-- A multipart's content, cut by its delimiters into prologue, parts and epilogue (RFC 2046, 5.1.1).
use Rattle.std.specs.Prelude.{◌≡◌, ℕ, nat_eq, Bool, true, false, not, ◌&&◌, ◌||◌, List, [], ◌∷◌, ◌++◌, length, drop, Option, Some, None, codes, if◌then◌else◌}
use Rattle.std.specs.List.{All, concat, list_all, starts_with}
use Rattle.octets.specs.Octet.{is_blank}
use Rattle.mime_text.specs.Lines.{ended_lines, without_end}

abbrev pub BodyLine : Type 0
BodyLine = List ℕ

-- whether a line without its end is the text, then only spaces and tabs
abbrev pub is_padded : (text : List ℕ) → BodyLine → Bool
is_padded text line = starts_with nat_eq (without_end line) text && list_all is_blank (drop (length text) (without_end line))

-- a line `--` boundary, which begins a part
abbrev pub is_delimiter : (boundary : List ℕ) → BodyLine → Bool
is_delimiter boundary line = is_padded (codes "--" ++ boundary) line

-- a line `--` boundary `--`, which ends the last part, or the prologue where no part came
abbrev pub is_closing : (boundary : List ℕ) → BodyLine → Bool
is_closing boundary line = is_padded (codes "--" ++ boundary ++ codes "--") line

-- any other line
abbrev pub is_inner : (boundary : List ℕ) → BodyLine → Bool
is_inner boundary line = not (is_delimiter boundary line || is_closing boundary line)

-- a part: its delimiter, and the lines up to the next delimiter or closing line
pub record BodyPart : Type 0 where
  pub delimiter : BodyLine
  pub lines : List BodyLine

-- the ending of a content: the end of the text, or a closing line and the lines after it
pub data MultipartEnding : Type 0 where
  open_end : MultipartEnding
  closed_by : (closing : BodyLine) → (epilogue : List BodyLine) → MultipartEnding

-- the lines before the first delimiter or closing line, the parts, and the ending
pub record Cut : Type 0 where
  pub prologue : List BodyLine
  pub parts : List BodyPart
  pub ending : MultipartEnding

-- THE ONE CUT

abbrev pub lines_of_parts : List BodyPart → List BodyLine
lines_of_parts [] = []
lines_of_parts (part ∷ more) = part.delimiter ∷ (part.lines ++ lines_of_parts more)

abbrev pub lines_of_ending : MultipartEnding → List BodyLine
lines_of_ending open_end = []
lines_of_ending (closed_by closing epilogue) = closing ∷ epilogue

-- the pieces of a cut, joined by its delimiters
abbrev pub lines_of : Cut → List BodyLine
lines_of cut = cut.prologue ++ (lines_of_parts cut.parts ++ lines_of_ending cut.ending)

-- no line is a delimiter or a closing one
abbrev pub AreInner : (boundary : List ℕ) → List BodyLine → Type 0
AreInner boundary lines = All (λ line. is_inner boundary line ≡ true) lines

abbrev pub IsBodyPart : (boundary : List ℕ) → BodyPart → Type 0
IsBodyPart boundary part = (is_delimiter boundary part.delimiter ≡ true) × AreInner boundary part.lines

abbrev pub IsEnding : (boundary : List ℕ) → MultipartEnding → Type 0
IsEnding boundary open_end = Unit {0}
IsEnding boundary (closed_by closing epilogue) = (is_delimiter boundary closing ≡ false) × (is_closing boundary closing ≡ true)

-- A cut of lines by a boundary. Joined, its pieces are these lines. No line of the prologue, and
-- none of a part after its delimiter, is a delimiter or a closing one. After a closing line each
-- line is of the epilogue.
pub record IsCut (boundary : List ℕ) (lines : List BodyLine) (cut : Cut) : Type 0 where
  pub joined : lines_of cut ≡ lines
  pub prologue : AreInner boundary cut.prologue
  pub parts : All (IsBodyPart boundary) cut.parts
  pub ending : IsEnding boundary cut.ending

-- THE SAME, COMPUTED

abbrev pub nothing_cut : Cut
nothing_cut = record { prologue = []; parts = []; ending = open_end }

-- the cut of a line and those after it, by the cut of the latter
abbrev pub with_line : (boundary : List ℕ) → BodyLine → (rest : List BodyLine) → Cut → Cut
with_line boundary line rest cut =
    if is_delimiter boundary line then record { prologue = []; parts = record { delimiter = line; lines = cut.prologue } ∷ cut.parts; ending = cut.ending }
    else if is_closing boundary line then record { prologue = []; parts = []; ending = closed_by line rest }
    else record { prologue = line ∷ cut.prologue; parts = cut.parts; ending = cut.ending }

unfoldable pub cut_of : (boundary : List ℕ) → List BodyLine → Cut
cut_of boundary [] = nothing_cut
cut_of boundary (line ∷ rest) = with_line boundary line rest (cut_of boundary rest)

-- ITS TEXTS

-- The text of lines. Before a delimiter or a closing line it lacks its last line end: that belongs
-- to the line after it.
abbrev pub text_of : (is_stopped : Bool) → List BodyLine → List ℕ
text_of is_stopped lines = if is_stopped then without_end (concat lines) else concat lines

abbrev pub is_ended : MultipartEnding → Bool
is_ended open_end = false
is_ended (closed_by closing epilogue) = true

-- whether a delimiter or a closing line comes
abbrev pub stops : List BodyPart → MultipartEnding → Bool
stops [] ending = is_ended ending
stops (part ∷ more) ending = true

abbrev pub prologue_text : Cut → List ℕ
prologue_text cut = text_of (stops cut.parts cut.ending) cut.prologue

abbrev pub texts_of_parts : List BodyPart → MultipartEnding → List (List ℕ)
texts_of_parts [] ending = []
texts_of_parts (part ∷ more) ending = text_of (stops more ending) part.lines ∷ texts_of_parts more ending

-- the texts of the parts, in order
abbrev pub part_texts : Cut → List (List ℕ)
part_texts cut = texts_of_parts cut.parts cut.ending

-- the text after the closing line, if one comes
abbrev pub epilogue_of : MultipartEnding → Option (List ℕ)
epilogue_of open_end = None
epilogue_of (closed_by closing epilogue) = Some (concat epilogue)

abbrev pub epilogue_text : Cut → Option (List ℕ)
epilogue_text cut = epilogue_of cut.ending

-- the cut of a content
abbrev pub content_cut : (boundary : List ℕ) → (content : List ℕ) → Cut
content_cut boundary content = cut_of boundary (ended_lines content)
