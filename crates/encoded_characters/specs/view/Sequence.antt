-- The program's sequences.
use Rattle.std.specs.Prelude.{ℕ, Bool, List, [], ◌∷◌, ◌++◌, Option, Some, None, option_map, if◌then◌else◌}
use Rattle.std.specs.Cow.{cow_slice_items}
use Rattle.std.specs.declared.alloc.Global.{Global}
use Rattle.std.specs.declared.borrow.CowSlice.{CowSlice}
use Rattle.std.specs.declared.vec.Vec.{Vec}
use Rattle.encoded_characters.specs.Scan.{inside_of}
use Rattle.encoded_characters.specs.Sequence.{InsideSequence, Item, EncodedSequence}
use Rattle.encoded_characters.specs.declared.item.EncodedItem as items
use Rattle.encoded_characters.specs.declared.sequence.EncodedSequence as sequences

abbrev pub sequence_of : sequences.EncodedSequence → EncodedSequence
sequence_of s = record { word = s.word.now; inside = inside_of s.inside.now }

abbrev pub item_of : items.EncodedItem → Item
item_of item = record { blanks = item.blanks.now; digits = item.digits.now }

-- an item before the rest of an inside
abbrev pub item_before : Item → InsideSequence → InsideSequence
item_before item inside = record { items = item ∷ inside.items; last = inside.last }

-- the inside of octets without digits
abbrev pub last_alone : List ℕ → InsideSequence
last_alone octets = record { items = []; last = octets }

-- octets before others, if there are others
abbrev pub grown : List ℕ → Option (List ℕ) → Option (List ℕ)
grown octets further = option_map (λ more. octets ++ more) further

-- octets that passed a test
abbrev pub if_right : Bool → List ℕ → Option (List ℕ)
if_right right octets = if right then Some octets else None

-- the octets, if there are any
abbrev pub octets_of : Option (Vec ℕ Global) → Option (List ℕ)
octets_of octets = option_map (λ octets. octets.items) octets

-- the octets that a text shows, if there is one
abbrev pub octets_shown : Option (CowSlice ℕ Global) → Option (List ℕ)
octets_shown text = option_map cow_slice_items text
