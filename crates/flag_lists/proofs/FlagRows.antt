-- A worked row of a list of flags that no list of the code can be.
use Rattle.std.specs.Prelude.{◌≡◌, [], ◌∷◌, codes, refl}
use Rattle.flag_lists.specs.Flags.{distinct, flag_union, flags_without}

-- a flag that the first list has twice stays twice
union_repeats_row : flag_union (codes "a" ∷ codes "A" ∷ []) (codes "b" ∷ []) ≡ codes "a" ∷ codes "A" ∷ codes "b" ∷ []
unfolding flag_union distinct flags_without
union_repeats_row = refl
