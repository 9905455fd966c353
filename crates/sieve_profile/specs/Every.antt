-- The values of an enum whose variants have no fields. Each stands there once, in the order in
-- which they are written.
use Rattle.std.specs.Prelude.{List, [], ◌∷◌, map}
use mathlib.Core.Logic.{inl, inr}
use denote.Struct.Field.{Field}
use denote.Enum.Declared.{Record, Choice}
use denote.Enum.Bare.{Bare}

abbrev pub choices : (variants : List (List Field)) → Bare variants → List (Choice variants)
choices [] bare = []
choices ([] ∷ variants) bare = inl tt ∷ map inr (choices variants bare)
choices ((field ∷ fields) ∷ variants) bare = absurd bare

abbrev pub every : (E : Record) → Bare E.parts → List E.D
every E bare = map E.make (choices E.parts bare)
