-- Which keys can match a value at all, by how many octets they have (RFC 5228, 2.7.1).
use Rattle.std.specs.Prelude.{ℕ, Bool, true, false, ◌==◌, List, filter, length, nat_le}
use Rattle.match_text.specs.Wildcard.{items_of}
use Rattle.match_text.specs.declared.pattern.Item.{Item}
use Rattle.match_text.specs.declared.pattern.Item.TheVariants.{Star, Question, Literal}
use Rattle.match_text.specs.declared.room.KeyKind.{KeyKind}
use Rattle.match_text.specs.declared.room.KeyKind.TheVariants.{Whole, Part, Pattern}

-- whether an item of a pattern takes exactly one octet of a value: each but a `*` does
abbrev pub takes_one : Item → Bool
takes_one Star = false
takes_one Question = true
takes_one (Literal b) = true

-- Whether a value of so many octets can match a key under a comparator that folds octets. Under
-- `:is` it can if the key has as many octets. Under `:contains` it can if the key has no more.
-- Under `:matches` it can if it has an octet for each item of the pattern that takes one. No octet
-- is compared. A value that matches is never refused, by `laws::keys_need_octets`.
abbrev pub may_match : KeyKind → (size : ℕ) → (key : List ℕ) → Bool
may_match Whole size key = size == length key
may_match Part size key = nat_le (length key) size
may_match Pattern size key = nat_le (length (filter takes_one (items_of key))) size
