-- The program's types of contents.
use Rattle.std.specs.Prelude.{ℕ, List, Option, None, Some, option_map}
use Rattle.std.specs.declared.alloc.Global.{Global}
use Rattle.std.specs.declared.vec.Vec.{Vec}
use Rattle.mime_text.specs.ContentType.{ContentType, NamedParameters}
use Rattle.mime_text.specs.declared.content_type.ContentType as declared
use Rattle.mime_text.specs.declared.content_type.NamedParameters as named
use Rattle.mime_text.specs.view.Marks.{octets_as}

abbrev pub content_type_as : declared.ContentType → ContentType
content_type_as type = record { main = type.main.items; sub = type.sub.items; boundary = octets_as type.boundary; charset = octets_as type.charset }

abbrev pub type_as : Option declared.ContentType → Option ContentType
type_as type = option_map content_type_as type

abbrev pub both_as : Option (Vec ℕ Global × Vec ℕ Global) → Option (List ℕ × List ℕ)
both_as two = option_map (λ two. (two.0.items, two.1.items)) two

abbrev pub named_as : named.NamedParameters → NamedParameters
named_as named = record { boundary = octets_as named.boundary; charset = octets_as named.charset }

-- the first of two values, or else the second
abbrev pub or_else : Option (List ℕ) → Option (List ℕ) → Option (List ℕ)
or_else None second = second
or_else (Some first) second = Some first

-- parameters that were found, and later ones where none of their name was found
abbrev pub over : NamedParameters → NamedParameters → NamedParameters
over before after = record { boundary = or_else before.boundary after.boundary; charset = or_else before.charset after.charset }
