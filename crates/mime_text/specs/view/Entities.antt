-- The program's entities.
use Rattle.std.specs.Prelude.{◌≡◌, ℕ, Bool, List, Option, None, Some, map, option_map}
use Rattle.mime_text.specs.ContentType.{ContentType}
use Rattle.mime_text.specs.Entities.{Entity, Given, EntityShape, around, content, content_of, encoding_of, given_by, header, held_type, inner_texts, is_digest_of, leaf, message, multipart, plain_type, type_of, unknown_type}
use Rattle.mime_text.specs.declared.entities.Entity as entity
use Rattle.mime_text.specs.declared.entities.EntityType.{EntityType}
use Rattle.mime_text.specs.declared.entities.EntityType.TheVariants as stated
use Rattle.mime_text.specs.declared.entities.Given.{Given as GivenSlices}
use Rattle.mime_text.specs.declared.entities.Given.TheVariants as given
use Rattle.mime_text.specs.declared.entities.EntityHead as head
use Rattle.mime_text.specs.declared.entities.InnerTexts as inner
use Rattle.mime_text.specs.declared.entities.EntityShape.{EntityShape as ShapeSlices}
use Rattle.mime_text.specs.declared.entities.EntityShape.TheVariants as shape
use Rattle.mime_text.specs.declared.encoding.TransferEncoding.{TransferEncoding}
use Rattle.mime_text.specs.view.ContentTypes.{content_type_as}

-- the type of an entity, if it has one
abbrev pub stated_as : EntityType → Option ContentType
stated_as stated.Plain = Some plain_type
stated_as stated.Message = Some held_type
stated_as stated.Octets = Some unknown_type
stated_as stated.Unread = None
stated_as (stated.Stated type) = Some (content_type_as type.value)

abbrev pub given_as : GivenSlices → Given
given_as (given.Around prologue epilogue) = around prologue.now (option_map (λ (e : _). e.now) epilogue)
given_as (given.Header octets) = header octets.now
given_as (given.Content encoding octets) = content encoding octets.now

abbrev pub entity_as : entity.Entity → Entity
entity_as e = record { type = stated_as e.stated; given = given_as e.given }

abbrev pub shape_as : ShapeSlices → EntityShape
shape_as (shape.Multipart is_digest boundary) = multipart is_digest (option_map (λ (b : _). b.now) boundary)
shape_as shape.Message = message
shape_as shape.Leaf = leaf

-- the type, the encoding and the content that the program reads from a text
pub record IsEntityHead (in_digest : Bool) (text : List ℕ) (h : head.EntityHead) : Type 0 where
  pub type : stated_as h.stated ≡ type_of in_digest text
  pub encoding : h.encoding ≡ encoding_of text
  pub content : h.content.now ≡ content_of text

-- the octets that the program gives for a content by its shape, and the texts in it
pub record IsInner (of : EntityShape) (encoding : TransferEncoding) (octets : List ℕ) (i : inner.InnerTexts) : Type 0 where
  pub given : given_as i.given ≡ given_by of encoding octets
  pub is_digest : i.is_digest ≡ is_digest_of of
  pub texts : map (λ (text : _). text.now) i.texts.items ≡ inner_texts of octets
