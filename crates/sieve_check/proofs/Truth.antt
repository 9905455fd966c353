-- Truth values.
use Rattle.std.proofs.Common.{◌≡◌, Bool, true, false, not, refl, sym}

pub not_both : false ≡ true → ⊥
not_both e = cc

pub never_both : true ≡ false → ⊥
never_both e = cc

pub not_false : (b : Bool) → not b ≡ false → b ≡ true
not_false true e = refl
not_false false e = absurd (never_both e)

abbrev pub agree : Bool → Bool → Bool
agree true b = b
agree false b = not b

pub alike : (a b : Bool) → agree a b ≡ true → a ≡ b
alike true b e = sym e
alike false true e = absurd (not_both e)
alike false false e = refl
