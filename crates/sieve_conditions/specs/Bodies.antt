-- The texts that a `body` test finds in a message (RFC 5173, 4 and 5). A message without an empty
-- line has no raw body. Under `:content` and `:text` it has the empty content, as an entity without
-- such a line has. RFC 5173, section 4, would have no test of it hold.
use Rattle.std.specs.Prelude.{ℕ, List, [], ◌∷◌, map, Option, None, Some, codes, option_to_list}
use Rattle.mime_text.specs.Entities.{body_of, entities_of}
use Rattle.mime_text.specs.Values.{texts_named}
use Rattle.sieve_profile.specs.Profile.{Profile}
use Rattle.sieve_script.specs.Reading.{BodyTransform, raw_transform, content_transform, text_transform}
use Rattle.sieve_variables.specs.Value.{Values, text_value}

-- The entries that name the contents that are looked at. Under `:text` they are those of the type
-- `text`. Under `:raw` there are none, since it doesn't look at contents.
abbrev pub entries_of : Values → BodyTransform → Option (List (List ℕ))
entries_of values raw_transform = None
entries_of values (content_transform entries) = Some (map (text_value values) entries)
entries_of values text_transform = Some (codes "text" ∷ [])

-- the octets after the first empty line as they stand, or the texts of the entities that are named
abbrev pub texts_in_body : Profile → (message : List ℕ) → Option (List (List ℕ)) → List (List ℕ)
texts_in_body profile message None = option_to_list (body_of message)
texts_in_body profile message (Some entries) = texts_named profile entries (entities_of message)

abbrev pub body_texts : Values → Profile → (message : List ℕ) → BodyTransform → List (List ℕ)
body_texts values profile message transform = texts_in_body profile message (entries_of values transform)
