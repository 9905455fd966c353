-- The octets of texts that are borrowed or owned.
use Rattle.std.specs.Prelude.{ℕ, List, map}
use Rattle.std.specs.Cow.{cow_slice_items}
use Rattle.std.specs.declared.alloc.Global.{Global}
use Rattle.std.specs.declared.borrow.CowSlice.{CowSlice}

-- the octets of each text
abbrev pub octets_of_each : List (CowSlice ℕ Global) → List (List ℕ)
octets_of_each texts = map cow_slice_items texts
