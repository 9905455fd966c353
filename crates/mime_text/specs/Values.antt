-- The texts that entities give to those who look for words in them (RFC 5173, section 5). A
-- prologue, an epilogue and the header section of a held message stand as they are. Any other
-- content is decoded, and a text is put into UTF-8.
use Rattle.std.specs.Prelude.{ℕ, Bool, List, [], ◌∷◌, Option, None, Some, codes, if◌then◌else◌, option_to_list}
use Rattle.std.specs.List.{flat_map, list_any}
use Rattle.charsets.specs.Charset.{text_in}
use Rattle.mime_text.specs.ContentType.{ContentType, is_main}
use Rattle.mime_text.specs.Entities.{Entity, Given, around, content, header}
use Rattle.mime_text.specs.TransferEncoding.{octets_of}
use Rattle.mime_text.specs.Wanted.{is_wanted, wanted_in}
use Rattle.sieve_profile.specs.Profile.{Profile}

-- the charset of a text; other types have none
abbrev pub charset_of_type : ContentType → Option (List ℕ)
charset_of_type type = if is_main (codes "text") type then type.charset else None

abbrev pub charset_of : Option ContentType → Option (List ℕ)
charset_of None = None
charset_of (Some type) = charset_of_type type

-- octets in UTF-8 where they are right in a charset that is known, and else as they are
abbrev pub text_by : Profile → (charset : Option (List ℕ)) → List ℕ → List ℕ
text_by profile None octets = octets
text_by profile (Some charset) octets = text_in profile charset octets

-- the texts of the octets that an entity of a type gives
abbrev pub texts_given : Profile → Option ContentType → Given → List (List ℕ)
texts_given profile type (around prologue epilogue) = prologue ∷ option_to_list epilogue
texts_given profile type (header octets) = octets ∷ []
texts_given profile type (content encoding octets) = text_by profile (charset_of type) (octets_of encoding octets) ∷ []

abbrev pub texts_of : Profile → Entity → List (List ℕ)
texts_of profile entity = texts_given profile entity.type entity.given

-- whether one of these entries names an entity
abbrev pub is_named_by : (entries : List (List ℕ)) → Entity → Bool
is_named_by entries entity = list_any (λ entry. is_wanted (wanted_in entry) entity.type) entries

-- the texts of an entity, if one of these entries names it
abbrev pub texts_if_named : Profile → (entries : List (List ℕ)) → Entity → List (List ℕ)
texts_if_named profile entries entity = if is_named_by entries entity then texts_of profile entity else []

-- the texts of those entities that one of these entries names, in their order
abbrev pub texts_named : Profile → (entries : List (List ℕ)) → List Entity → List (List ℕ)
texts_named profile entries entities = flat_map (texts_if_named profile entries) entities
