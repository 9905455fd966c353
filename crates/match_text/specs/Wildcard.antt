-- Which patterns a value matches under `:matches` (RFC 5228, 2.7.1). Their wildcards take the texts
-- of match variables (RFC 5229, 3.2).
use Rattle.std.specs.Prelude.{◌≡◌, ℕ, suc, ◌<◌, ◌≤◌, Bool, true, false, not, ◌&&◌, ◌==◌, ◌⊎◌, if◌then◌else◌, List, [], ◌∷◌, ◌++◌, length, take, drop, filter, option_to_list, Option, None, Some}
use Rattle.std.specs.Option.{option_map, option_or}
use Rattle.octets.specs.Octet.{octet_of}
use Rattle.match_text.specs.declared.pattern.Item.{Item}
use Rattle.match_text.specs.declared.pattern.Item.TheVariants.{Star, Question, Literal}

-- PATTERNS (RFC 5228, 2.7.1)

-- The item that an octet of a pattern is: a `*`, a `?` or an octet that stands for itself. Each
-- octet that a `\` protects stands for itself. A `\` that protects the octet after it is no item.
abbrev pub item_at : (protected : Bool) → ℕ → Option Item
item_at protected b =
    if protected then Some (Literal b) else
    if b == octet_of "*" then Some Star else
    if b == octet_of "?" then Some Question else
    if b == octet_of "\\" then None else Some (Literal b)

-- The items of the rest of a pattern, by whether its first octet is protected. A last `\` stands
-- for itself.
abbrev pub items_from : (protected : Bool) → List ℕ → List Item
items_from protected [] = if protected then Literal (octet_of "\\") ∷ [] else []
items_from protected (b ∷ rest) =
    option_to_list (item_at protected b) ++ items_from (not protected && b == octet_of "\\") rest

-- the items of a pattern
abbrev pub items_of : List ℕ → List Item
items_of pattern = items_from false pattern

abbrev pub is_wildcard : Item → Bool
is_wildcard Star = true
is_wildcard Question = true
is_wildcard (Literal b) = false

abbrev pub wildcard_count : List Item → ℕ
wildcard_count items = length (filter is_wildcard items)

-- FITS

-- A fit has one length for each wildcard. Under these lengths the items in turn cover exactly the
-- value. A `*` takes as many octets as its length says, and a `?` takes one. An octet takes one
-- that is equal to it after folding.
abbrev pub Fits : (fold : ℕ → ℕ) → List Item → (value lengths : List ℕ) → Type 0
Fits fold [] [] [] = Unit {0}
Fits fold [] [] (n ∷ lengths) = ⊥
Fits fold [] (x ∷ value) lengths = ⊥
Fits fold (Literal b ∷ items) [] lengths = ⊥
Fits fold (Literal b ∷ items) (x ∷ value) lengths = (fold x ≡ fold b) × Fits fold items value lengths
Fits fold (Question ∷ items) [] lengths = ⊥
Fits fold (Question ∷ items) (x ∷ value) [] = ⊥
Fits fold (Question ∷ items) (x ∷ value) (n ∷ lengths) = (n ≡ 1) × Fits fold items value lengths
Fits fold (Star ∷ items) value [] = ⊥
Fits fold (Star ∷ items) value (n ∷ lengths) = (n ≤ length value) × Fits fold items (drop n value) lengths

-- dictionary order: the first length that differs decides
abbrev pub AtMost : List ℕ → List ℕ → Type 0
AtMost [] others = Unit {0}
AtMost (m ∷ lengths) [] = ⊥
AtMost (m ∷ lengths) (n ∷ others) = (m < n) ⊎ ((m ≡ n) × AtMost lengths others)

-- the first wildcard takes as little as it can, then the second, and so on (RFC 5229, 3.2)
pub record IsLeastFit (fold : ℕ → ℕ) (items : List Item) (value lengths : List ℕ) : Type 0 where
  pub fits : Fits fold items value lengths
  pub least : (others : List ℕ) → Fits fold items value others → AtMost lengths others

-- THE LEAST FIT

-- the first length is one more
abbrev pub one_more : List ℕ → List ℕ
one_more [] = []
one_more (n ∷ lengths) = suc n ∷ lengths

-- The least fit of a `*` before items whose least fits are known. It takes nothing if it can, or
-- else one octet more than in the rest of the value.
abbrev pub star_fit : (List ℕ → Option (List ℕ)) → List ℕ → Option (List ℕ)
star_fit after [] = option_map (λ lengths. 0 ∷ lengths) (after [])
star_fit after (x ∷ value) =
    option_or (option_map (λ lengths. 0 ∷ lengths) (after (x ∷ value))) (option_map one_more (star_fit after value))

-- the least fit, if there is a fit
unfoldable pub least_fit : (fold : ℕ → ℕ) → List Item → List ℕ → Option (List ℕ)
least_fit fold [] [] = Some []
least_fit fold [] (x ∷ value) = None
least_fit fold (Literal b ∷ items) [] = None
least_fit fold (Literal b ∷ items) (x ∷ value) = if fold x == fold b then least_fit fold items value else None
least_fit fold (Question ∷ items) [] = None
least_fit fold (Question ∷ items) (x ∷ value) = option_map (λ lengths. 1 ∷ lengths) (least_fit fold items value)
least_fit fold (Star ∷ items) value = star_fit (least_fit fold items) value

-- CAPTURES (RFC 5229, 3.2)

-- the slice of the value that each wildcard takes, in order
abbrev pub taken : List Item → (lengths value : List ℕ) → List (List ℕ)
taken [] lengths value = []
taken (Literal b ∷ items) lengths value = taken items lengths (drop 1 value)
taken (Question ∷ items) [] value = []
taken (Question ∷ items) (n ∷ lengths) value = take n value ∷ taken items lengths (drop n value)
taken (Star ∷ items) [] value = []
taken (Star ∷ items) (n ∷ lengths) value = take n value ∷ taken items lengths (drop n value)

-- The items take the value in turn. Each wildcard takes its text, and a `?` one of one octet. An
-- octet takes one that is equal to it after folding. The slices that are taken under a fit are such
-- texts, by `laws::captures_are_slices`.
abbrev pub TakeInTurn : (fold : ℕ → ℕ) → List Item → (value : List ℕ) → (texts : List (List ℕ)) → Type 0
TakeInTurn fold [] value texts = (value ≡ []) × (texts ≡ [])
TakeInTurn fold (Literal b ∷ items) [] texts = ⊥
TakeInTurn fold (Literal b ∷ items) (x ∷ value) texts = (fold x ≡ fold b) × TakeInTurn fold items value texts
TakeInTurn fold (Question ∷ items) value [] = ⊥
TakeInTurn fold (Question ∷ items) value (text ∷ texts) =
    (length text ≡ 1) × ((rest : List ℕ) × ((value ≡ text ++ rest) × TakeInTurn fold items rest texts))
TakeInTurn fold (Star ∷ items) value [] = ⊥
TakeInTurn fold (Star ∷ items) value (text ∷ texts) =
    (rest : List ℕ) × ((value ≡ text ++ rest) × TakeInTurn fold items rest texts)

-- The whole value, and after it the slices that the wildcards of a pattern take under the least
-- fit. None if no fit exists.
unfoldable pub matched : (fold : ℕ → ℕ) → (value pattern : List ℕ) → Option (List (List ℕ))
matched fold value pattern =
    option_map (λ lengths. value ∷ taken (items_of pattern) lengths value) (least_fit fold (items_of pattern) value)
