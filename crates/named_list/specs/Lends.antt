-- The list after a `&mut` to one of its values has ended.
use Rattle.std.specs.Prelude.{ℕ, List, Option}
use Rattle.std.specs.Borrow.{Fml, LendsIf, MutBor, RattleType}
use Rattle.named_list.specs.Named.{Named, with_value, with_value_at}
use Rattle.named_list.specs.contracts.list.NamedList.{the_row}

module _ (V : RattleType) (named : MutBor (Named V.Denot)) where
  -- the name has the last value written through `r`; at `None` the list stays as it is
  abbrev pub lends_named : List ℕ → Option (MutBor V.Denot) → Fml
  lends_named name r = LendsIf (the_row V) V named r (with_value named.now name) named.now

  -- the place has the last value written through `r`; at `None` the list stays as it is
  abbrev pub lends_at : ℕ → Option (MutBor V.Denot) → Fml
  lends_at place r = LendsIf (the_row V) V named r (with_value_at named.now place) named.now
