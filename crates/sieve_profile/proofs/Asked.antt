-- The extensions that a name asks for, one after another.
use Rattle.std.proofs.Common.{◌≡◌, ℕ, ◌+◌, ◌<◌, Bool, true, false, cond, List, ◌∷◌, length, get_or, drop, filter, None, Some, refl, sym, ap, ◌∙◌}
use Rattle.std.specs.Prelude.{if◌then◌else◌}
use Rattle.std.specs.List.{list_any}
use Rattle.std.proofs.lemmas.List.{at_drop_more}
use Rattle.sieve_profile.specs.Extension.{asked_by, asks_for, extensions}
use Rattle.sieve_profile.specs.Profile.{Profile, with_each, with_extension, with_named}
use Rattle.sieve_profile.specs.declared.extension.Extension.{Extension}

module _ (test : Extension → Bool) (xs : List Extension) where
  by_test : (p : Profile) (x : Extension) (rest : List Extension) (b : Bool) → with_each p (cond b (x ∷ rest) rest) ≡ with_each (if b then with_extension p x else p) rest
  by_test p x rest true = refl
  by_test p x rest false = refl

  -- the next one is added where it is asked for
  pub turn : (p : Profile) (i : ℕ) (d : Extension) (b : Bool) → i < length xs → b ≡ test (get_or xs i d)
      → with_each (if b then with_extension p (get_or xs i d) else p) (filter test (drop (i + 1) xs)) ≡ with_each p (filter test (drop i xs))
  turn p i d b within is =
      sym (by_test p (get_or xs i d) (filter test (drop (i + 1) xs)) b)
      ∙ ap (λ t. with_each p (cond t (get_or xs i d ∷ filter test (drop (i + 1) xs)) (filter test (drop (i + 1) xs)))) is
      ∙ sym (at_drop_more (λ (es : List Extension). with_each p (filter test es)) xs i d within)

-- where some extension is asked for, or none
pub known : (profile p : Profile) (name : List ℕ) → list_any (asks_for name) extensions ≡ true → p ≡ with_each profile (asked_by name) → Some p ≡ with_named profile name
known profile p name some is = ap Some is ∙ ap (λ (b : Bool). if b then Some (with_each profile (asked_by name)) else None) (sym some)

pub unknown : (profile : Profile) (name : List ℕ) → list_any (asks_for name) extensions ≡ false → None ≡ with_named profile name
unknown profile name none = ap (λ (b : Bool). if b then Some (with_each profile (asked_by name)) else None) (sym none)
