-- Items between the stars of a pattern: how they are found, and where they stand in a text.
use Rattle.std.specs.Prelude.{ℕ, suc, Bool, true, false, ◌&&◌, ◌==◌, if◌then◌else◌, List, [], ◌∷◌, length, map, take, drop, Option, None, Some}
use denote.Ref.{Bor}
use Rattle.std.specs.Option.{option_map}
use Rattle.match_text.specs.Wildcard.{least_fit, taken}
use Rattle.match_text.specs.Comparator.{octet}
use Rattle.match_text.specs.declared.pattern.Item.{Item}
use Rattle.match_text.specs.declared.pattern.Item.TheVariants.{Star, Question, Literal}

-- an item whose octet is folded
abbrev pub folded_item : (ℕ → ℕ) → Item → Item
folded_item fold Star = Star
folded_item fold Question = Question
folded_item fold (Literal b) = Literal (fold b)

-- the items before the first star: a segment
abbrev pub before_star : List Item → List Item
before_star [] = []
before_star (Star ∷ items) = []
before_star (Question ∷ items) = Question ∷ before_star items
before_star (Literal b ∷ items) = Literal b ∷ before_star items

-- the items from the first star on
abbrev pub from_star : List Item → List Item
from_star [] = []
from_star (Star ∷ items) = Star ∷ items
from_star (Question ∷ items) = from_star items
from_star (Literal b ∷ items) = from_star items

-- a segment of octets alone
abbrev pub literals : List ℕ → List Item
literals octets = map Literal octets

-- whether an item of a segment takes an octet
abbrev pub takes : Item → ℕ → Bool
takes Star x = false
takes Question x = true
takes (Literal b) x = x == b

-- whether the text begins with octets that the segment takes
abbrev pub begins : (segment : List Item) → (text : List ℕ) → Bool
begins [] text = true
begins (item ∷ segment) [] = false
begins (item ∷ segment) (x ∷ text) = takes item x && begins segment text

-- whether the text is octets that the segment takes, and no more
abbrev pub ends : (segment : List Item) → (text : List ℕ) → Bool
ends segment text = length segment == length text && begins segment text

-- the first place of the text from which a test passes
abbrev pub first_place : (List ℕ → Bool) → (text : List ℕ) → Option ℕ
first_place test [] = if test [] then Some 0 else None
first_place test (x ∷ text) = if test (x ∷ text) then Some 0 else option_map suc (first_place test text)

-- The place of a segment after a star in the least fit. It is the first place, or the one at the
-- end of the text if no item follows.
abbrev pub place_of : (segment after : List Item) → (text : List ℕ) → Option ℕ
place_of segment [] text = first_place (ends segment) text
place_of segment (item ∷ after) text = first_place (begins segment) text

-- the octet that each `?` of a segment takes
abbrev pub questions : (segment : List Item) → (value : List ℕ) → List (List ℕ)
questions [] value = []
questions (Star ∷ segment) value = questions segment (drop 1 value)
questions (Literal b ∷ segment) value = questions segment (drop 1 value)
questions (Question ∷ segment) value = take 1 value ∷ questions segment (drop 1 value)

-- the texts that the wildcards take of the value under the least fit for a folded text
unfoldable pub captures_of : List Item → (text value : List ℕ) → Option (List (List ℕ))
captures_of items text value = option_map (λ lengths. taken items lengths value) (least_fit octet items text)

-- the octets of slices
abbrev pub texts_of : List (Bor (List ℕ)) → List (List ℕ)
texts_of slices = map (λ octets. octets.now) slices
