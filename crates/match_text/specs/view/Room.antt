-- Whether a room for keys is enough for the rest of a key.
use Rattle.std.specs.Prelude.{ℕ, Bool, false, not, ◌&&◌, ◌||◌, ◌==◌, List, Option, None, Some, filter, length, nat_le}
use Rattle.octets.specs.Octet.{octet_of}
use Rattle.match_text.specs.Room.{takes_one}
use Rattle.match_text.specs.Wildcard.{items_from}
use Rattle.match_text.specs.declared.room.KeyKind.{KeyKind}
use Rattle.match_text.specs.declared.room.KeyKind.TheVariants.{Whole, Part, Pattern}
use Rattle.match_text.specs.declared.room.Room as rooms

-- Whether so many octets of a value may match the rest of a key. In a pattern, the first octet of
-- the rest may be protected.
abbrev pub fits_rest : KeyKind → (protected : Bool) → (left : ℕ) → (rest : List ℕ) → Bool
fits_rest Whole protected left rest = left == length rest
fits_rest Part protected left rest = nat_le (length rest) left
fits_rest Pattern protected left rest = nat_le (length (filter takes_one (items_from protected rest))) left

-- the same, if the key may have needed more octets before than the value has
abbrev pub is_room : KeyKind → (protected : Bool) → (left : Option ℕ) → (rest : List ℕ) → Bool
is_room kind protected None rest = false
is_room kind protected (Some left) rest = fits_rest kind protected left rest

-- whether a room is enough for the rest of a key
abbrev pub has_room : rooms.Room → (rest : List ℕ) → Bool
has_room room rest = is_room room.kind room.is_protected room.left rest

-- whether an octet of a pattern is an item that takes one of a value
abbrev pub takes_octet : (protected : Bool) → ℕ → Bool
takes_octet protected b = protected || (not (b == octet_of "*") && not (b == octet_of "\\"))
