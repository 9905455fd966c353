-- The entities of a message (RFC 2045, 2.4; RFC 2046, section 5): itself, parts of multiparts, and
-- held messages. Outer ones come before inner ones, in the order of the text.
use Rattle.std.specs.Prelude.{ℕ, zero, suc, Bool, false, ◌&&◌, ◌||◌, nat_le, List, [], ◌∷◌, ◌++◌, length, filter, Option, None, Some, codes, if◌then◌else◌}
use Rattle.std.specs.List.{concat}
use Rattle.std.specs.Option.{option_and_then}
use Rattle.message_text.specs.Fields.{Field, fields_of, is_field_named}
use Rattle.mime_text.specs.ContentType.{ContentType, content_type_in, is_main, is_type}
use Rattle.mime_text.specs.Lines.{ended_lines, is_line_end}
use Rattle.mime_text.specs.Multipart.{Cut, content_cut, epilogue_text, part_texts, prologue_text}
use Rattle.mime_text.specs.TransferEncoding.{encoding_in}
use Rattle.mime_text.specs.declared.encoding.TransferEncoding.{TransferEncoding}
use Rattle.mime_text.specs.declared.encoding.TransferEncoding.TheVariants.{Identity}

-- HEADER AND CONTENT

-- the lines before the first empty one
unfoldable pub lines_before : List (List ℕ) → List (List ℕ)
lines_before [] = []
lines_before (line ∷ more) = if is_line_end line then [] else line ∷ lines_before more

-- the lines after the first empty one, if there is one
unfoldable pub lines_after : List (List ℕ) → Option (List (List ℕ))
lines_after [] = None
lines_after (line ∷ more) = if is_line_end line then Some more else lines_after more

-- the header section of a text
abbrev pub header_of : List ℕ → List ℕ
header_of text = concat (lines_before (ended_lines text))

abbrev pub joined_lines : Option (List (List ℕ)) → Option (List ℕ)
joined_lines None = None
joined_lines (Some lines) = Some (concat lines)

-- the text after the first empty line, if there is one
abbrev pub body_of : List ℕ → Option (List ℕ)
body_of text = joined_lines (lines_after (ended_lines text))

abbrev pub or_empty : Option (List ℕ) → List ℕ
or_empty None = []
or_empty (Some octets) = octets

-- the content of an entity; it is empty where there is no empty line
abbrev pub content_of : List ℕ → List ℕ
content_of text = or_empty (body_of text)

-- the value of the first field, if there is one
abbrev pub first_value : List Field → Option (List ℕ)
first_value [] = None
first_value (field ∷ more) = Some field.value

-- the value of the first field of a name, if there is one
abbrev pub value_named : (name text : List ℕ) → Option (List ℕ)
value_named name text = first_value (filter (is_field_named name) (fields_of (header_of text)))

-- TYPES

abbrev pub plain_type : ContentType
plain_type = record { main = codes "text"; sub = codes "plain"; boundary = None; charset = None }

abbrev pub held_type : ContentType
held_type = record { main = codes "message"; sub = codes "rfc822"; boundary = None; charset = None }

abbrev pub unknown_type : ContentType
unknown_type = record { main = codes "application"; sub = codes "octet-stream"; boundary = None; charset = None }

-- The type where no field says one: in a digest, a message's (RFC 2045, 5.2; RFC 2046, 5.1.5).
abbrev pub default_type : (in_digest : Bool) → ContentType
default_type in_digest = if in_digest then held_type else plain_type

abbrev pub type_by : (in_digest : Bool) → Option (List ℕ) → Option ContentType
type_by in_digest None = Some (default_type in_digest)
type_by in_digest (Some value) = content_type_in value

abbrev pub encoding_by : Option (List ℕ) → Option TransferEncoding
encoding_by None = Some Identity
encoding_by (Some value) = encoding_in value

-- The type under an encoding. Under an unknown one it is that of any octets, whatever the field
-- says (RFC 2045, 6.4).
abbrev pub known_type : Option TransferEncoding → Option ContentType → Option ContentType
known_type None type = Some unknown_type
known_type (Some encoding) type = type

abbrev pub known_encoding : Option TransferEncoding → TransferEncoding
known_encoding None = Identity
known_encoding (Some encoding) = encoding

abbrev pub stated_encoding : (text : List ℕ) → Option TransferEncoding
stated_encoding text = encoding_by (value_named (codes "Content-Transfer-Encoding") text)

abbrev pub type_of : (in_digest : Bool) → (text : List ℕ) → Option ContentType
type_of in_digest text = known_type (stated_encoding text) (type_by in_digest (value_named (codes "Content-Type") text))

abbrev pub encoding_of : (text : List ℕ) → TransferEncoding
encoding_of text = known_encoding (stated_encoding text)

-- ENTITIES

-- The octets that an entity gives. A multipart gives its prologue and its epilogue. An entity that
-- holds a message gives that message's header section. Any other gives its content, to be decoded.
pub data Given : Type 0 where
  around : (prologue : List ℕ) → (epilogue : Option (List ℕ)) → Given
  header : (octets : List ℕ) → Given
  content : TransferEncoding → (octets : List ℕ) → Given

-- an entity: its type, if it has one, and the octets that it gives
pub record Entity : Type 0 where
  pub type : Option ContentType
  pub given : Given

-- a boundary, if it has 1 to 70 octets
abbrev pub if_short : List ℕ → Option (List ℕ)
if_short boundary = if nat_le 1 (length boundary) && nat_le (length boundary) 70 then Some boundary else None

abbrev pub boundary_of : ContentType → Option (List ℕ)
boundary_of type = option_and_then if_short type.boundary

-- the shapes of entities, by their types
pub data EntityShape : Type 0 where
  multipart : (is_digest : Bool) → (boundary : Option (List ℕ)) → EntityShape
  message : EntityShape
  leaf : EntityShape

abbrev pub shape_of_type : ContentType → EntityShape
shape_of_type type =
    if is_main (codes "multipart") type then multipart (is_type (codes "multipart") (codes "digest") type) (boundary_of type)
    else if is_type (codes "message") (codes "rfc822") type || is_type (codes "message") (codes "global") type then message
    else leaf

abbrev pub shape_of : Option ContentType → EntityShape
shape_of None = leaf
shape_of (Some type) = shape_of_type type

abbrev pub given_by_cut : Cut → Given
given_by_cut cut = around (prologue_text cut) (epilogue_text cut)

-- the octets that an entity of a shape gives; without a boundary all of a multipart is prologue
abbrev pub given_by : EntityShape → TransferEncoding → (octets : List ℕ) → Given
given_by (multipart is_digest (Some boundary)) encoding octets = given_by_cut (content_cut boundary octets)
given_by (multipart is_digest None) encoding octets = around octets None
given_by message encoding octets = header (header_of octets)
given_by leaf encoding octets = content encoding octets

abbrev pub entity_of : (in_digest : Bool) → (text : List ℕ) → Entity
entity_of in_digest text = record { type = type_of in_digest text; given = given_by (shape_of (type_of in_digest text)) (encoding_of text) (content_of text) }

-- the texts of the entities directly in one (RFC 2046, 5.1.1 and 5.2.1)
abbrev pub inner_texts : EntityShape → (octets : List ℕ) → List (List ℕ)
inner_texts (multipart is_digest (Some boundary)) octets = part_texts (content_cut boundary octets)
inner_texts (multipart is_digest None) octets = []
inner_texts message octets = octets ∷ []
inner_texts leaf octets = []

-- whether the entities directly in one are in a digest
abbrev pub is_digest_of : EntityShape → Bool
is_digest_of (multipart is_digest boundary) = is_digest
is_digest_of message = false
is_digest_of leaf = false

-- the entities of texts, by those of one text
unfoldable pub entities_by : (List ℕ → List Entity) → List (List ℕ) → List Entity
entities_by of_text [] = []
entities_by of_text (text ∷ more) = of_text text ++ entities_by of_text more

-- the entities of a text, of which at most `depth` lie in one another
unfoldable pub entities_in : (depth : ℕ) → (in_digest : Bool) → (text : List ℕ) → List Entity
entities_in zero in_digest text = []
entities_in (suc depth) in_digest text =
    entity_of in_digest text ∷ entities_by (entities_in depth (is_digest_of (shape_of (type_of in_digest text)))) (inner_texts (shape_of (type_of in_digest text)) (content_of text))

-- the most entities that lie in one another; the message has depth 1
abbrev pub depth_limit : ℕ
depth_limit = 32

-- the entities of a message
abbrev pub entities_of : (message : List ℕ) → List Entity
entities_of text = entities_in depth_limit false text
