-- The pieces between the spaces of a text, one after the other.
use Rattle.std.specs.Prelude.{ℕ, List, [], Option, None, Some}
use denote.Ref.{Bor}
use Rattle.flag_lists.specs.Flags.{pieces}

-- the pieces of the text after a space, if there is one
abbrev pub pieces_after : Option (Bor (List ℕ)) → List (List ℕ)
pieces_after None = []
pieces_after (Some rest) = pieces rest.now
