-- The slots of a list of values by name.
use Rattle.std.specs.Prelude.{◌≡◌, ⊤, ℕ, suc, Bool, true, false, cond, List, [], ◌∷◌, nat_eq, Option, None, Some, is_some}
use lib.Pointwise.{pointwise}
use Rattle.named_list.specs.declared.slot.SlotKey.{SlotKey}
use Rattle.named_list.specs.declared.slot.SlotKey.TheVariants as key
use Rattle.named_list.specs.declared.slot.SoughtKey.{SoughtKey}
use Rattle.named_list.specs.declared.slot.SoughtKey.TheVariants as sought

-- whether a key is this name
abbrev pub is_named : List ℕ → SlotKey → Bool
is_named sought (key.Name name) = pointwise nat_eq sought name
is_named sought (key.Gap number) = false

-- whether a key is the gap of this number
abbrev pub is_gap : ℕ → SlotKey → Bool
is_gap sought (key.Name name) = false
is_gap sought (key.Gap number) = nat_eq sought number

-- whether a key is the one that is sought
abbrev pub is_sought : SoughtKey → SlotKey → Bool
is_sought (sought.Name octets) = is_named octets.now
is_sought (sought.Gap number) = is_gap number

-- whether a key is a name
abbrev pub is_name : SlotKey → Bool
is_name (key.Name name) = true
is_name (key.Gap number) = false

module _ {V : Type 0} where
  -- the value in a slot by its name, where it has both
  abbrev pub entry_in : SlotKey → Option V → Option (List ℕ × V)
  entry_in (key.Name name) None = None
  entry_in (key.Name name) (Some value) = Some (name, value)
  entry_in (key.Gap number) value = None

  -- an entry, where there is one, before others
  abbrev pub before_others : Option (List ℕ × V) → List (List ℕ × V) → List (List ℕ × V)
  before_others None entries = entries
  before_others (Some entry) entries = entry ∷ entries

  -- the values by their names
  unfoldable pub entries_of : List (SlotKey × Option V) → List (List ℕ × V)
  entries_of [] = []
  entries_of (s ∷ ss) = before_others (entry_in s.0 s.1) (entries_of ss)

  -- a slot with a name has a value
  abbrev pub HasValue : SlotKey → Option V → Type 0
  HasValue (key.Name name) value = is_some value ≡ true
  HasValue (key.Gap number) value = ⊤

  -- each slot with a name has a value
  unfoldable pub HaveValues : List (SlotKey × Option V) → Type 0
  HaveValues [] = ⊤
  HaveValues (s ∷ ss) = HasValue s.0 s.1 × HaveValues ss

  -- the number of slots that are gaps
  unfoldable pub gaps_of : List (SlotKey × Option V) → ℕ
  gaps_of [] = 0
  gaps_of (s ∷ ss) = cond (is_name s.0) (gaps_of ss) (suc (gaps_of ss))

  -- each slot with a name has a value, and this many are gaps
  abbrev pub AreFilled : List (SlotKey × Option V) → ℕ → Type 0
  AreFilled slots gaps = HaveValues slots × (gaps_of slots ≡ gaps)

  -- the slots with a gap of this number in the place of the first whose key passes the test
  abbrev pub gap_left : (SlotKey → Bool) → ℕ → List (SlotKey × Option V) → List (SlotKey × Option V)
  gap_left test number [] = []
  gap_left test number (s ∷ ss) = cond (test s.0) ((key.Gap number, None) ∷ ss) (s ∷ gap_left test number ss)
