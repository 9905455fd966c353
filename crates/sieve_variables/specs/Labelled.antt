-- Octets with a label.
use Rattle.std.specs.Prelude.{ℕ, List}

-- octets and their label
pub record Labelled (L : Type 0) : Type 0 where
  pub label : L
  pub octets : List ℕ
