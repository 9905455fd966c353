-- A list of values by name.
use Rattle.std.specs.Prelude.{ℕ, List, nat_eq, Option}
use Rattle.std.specs.List.{IsDistinct}
use Rattle.std.specs.Map.{keys_of, set_value}
use Rattle.indexmap.specs.Layout.{set_value_at}
use lib.Pointwise.{pointwise}

-- the names in the order in which they were put, each with its value
pub record Named (V : Type 0) : Type 0 where
  pub entries : List (List ℕ × V)

-- no two values have one name
abbrev pub IsUnique : {V : Type 0} → Named V → Type 0
IsUnique named = IsDistinct (pointwise nat_eq) (keys_of named.entries)

-- the list with another value at a name that it has
abbrev pub with_value : {V : Type 0} → Named V → List ℕ → V → Named V
with_value named name value = record { entries = set_value (pointwise nat_eq name) named.entries value }

-- the list with another value at a place that it has
abbrev pub with_value_at : {V : Type 0} → Named V → ℕ → V → Named V
with_value_at named place value = record { entries = set_value_at named.entries place value }
