-- The program's boundaries and stretches.
use Rattle.std.specs.Prelude.{◌≡◌, ℕ, ◌+◌, List, [], ◌∷◌, ◌++◌, Option, None, Some, length, map, option_map, codes, if◌then◌else◌}
use Rattle.std.specs.List.{concat}
use Rattle.mime_text.specs.Multipart.{Cut, BodyLine, content_cut, epilogue_text, is_padded, part_texts, prologue_text}
use Rattle.mime_text.specs.declared.multipart.BoundaryKind.{BoundaryKind}
use Rattle.mime_text.specs.declared.multipart.BoundaryKind.TheVariants as kind
use Rattle.mime_text.specs.declared.multipart.Pieces as declared
use Rattle.mime_text.specs.declared.multipart.PartStop.{PartStop}
use Rattle.mime_text.specs.declared.multipart.PartStop.TheVariants as stop

-- the octets with which the lines of a boundary begin
abbrev pub IsBoundary : (boundary delimiter closing : List ℕ) → Type 0
IsBoundary boundary delimiter closing = (delimiter ≡ codes "--" ++ boundary) × (closing ≡ codes "--" ++ boundary ++ codes "--")

abbrev pub kind_of : (delimiter closing : List ℕ) → BodyLine → BoundaryKind
kind_of delimiter closing line = if is_padded delimiter line then kind.Delimiter else if is_padded closing line then kind.Closing else kind.Inner

-- a measure of the text that is left to cut after a stop
abbrev pub left_after : PartStop → ℕ
left_after stop.End = 0
left_after (stop.Delimiter rest) = 1 + length rest.now
left_after (stop.Closing rest) = 0

-- the texts of the parts after a stop, and the text after the closing line
abbrev pub parts_at : (boundary : List ℕ) → PartStop → List (List ℕ)
parts_at boundary stop.End = []
parts_at boundary (stop.Delimiter rest) = prologue_text (content_cut boundary rest.now) ∷ part_texts (content_cut boundary rest.now)
parts_at boundary (stop.Closing rest) = []

abbrev pub epilogue_at : (boundary : List ℕ) → PartStop → Option (List ℕ)
epilogue_at boundary stop.End = None
epilogue_at boundary (stop.Delimiter rest) = epilogue_text (content_cut boundary rest.now)
epilogue_at boundary (stop.Closing rest) = Some rest.now

-- the stop at the end of a cut's first stretch
pub record StopsAt (boundary : List ℕ) (cut : Cut) (stop : PartStop) : Type 0 where
  pub parts : part_texts cut ≡ parts_at boundary stop
  pub epilogue : epilogue_text cut ≡ epilogue_at boundary stop

-- A text with a front, and a rest after it. No line of the front is a delimiter or a closing one.
pub record Follows (boundary front : List ℕ) (text rest : List ℕ) : Type 0 where
  pub prologue : concat (content_cut boundary text).prologue ≡ front ++ concat (content_cut boundary rest).prologue
  pub parts : (content_cut boundary text).parts ≡ (content_cut boundary rest).parts
  pub ending : (content_cut boundary text).ending ≡ (content_cut boundary rest).ending

-- the program's pieces of a cut
pub record ArePieces (cut : Cut) (pieces : declared.Pieces) : Type 0 where
  pub prologue : pieces.prologue.now ≡ prologue_text cut
  pub parts : map (λ (part : _). part.now) pieces.parts.items ≡ part_texts cut
  pub epilogue : option_map (λ (epilogue : _). epilogue.now) pieces.epilogue ≡ epilogue_text cut
