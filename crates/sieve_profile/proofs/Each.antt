-- A test that is computed of all values of an enum without fields holds of each.
use Rattle.std.proofs.Common.{◌≡◌, ℕ, zero, suc, Bool, true, ◌&&◌, List, [], ◌∷◌, map, None, Some, slice_get, refl, sym, ap, ◌∙◌}
use Rattle.std.specs.List.{list_all}
use Rattle.std.specs.Option.{option_map}
use Rattle.std.proofs.lemmas.Bool.{and_parts}
use mathlib.Core.Logic.{inl, inr}
use denote.Struct.Field.{Field}
use denote.Enum.Declared.{Record, Choice, declared, intoss, rowss, tag_of}
use denote.Enum.Enum.{tag}
use denote.Enum.Bare.{Bare}
use Rattle.sieve_profile.specs.Every.{choices, every}

all_mapped : {X Y : Type 0} (f : X → Y) (passes : Y → Bool) (xs : List X) → list_all passes (map f xs) ≡ list_all (λ x. passes (f x)) xs
all_mapped f passes [] = refl
all_mapped f passes (x ∷ xs) = ap (λ b. passes (f x) && b) (all_mapped f passes xs)

of_each_choice : (variants : List (List Field)) (bare : Bare variants) (passes : Choice variants → Bool) → list_all passes (choices variants bare) ≡ true → (c : Choice variants) → passes c ≡ true
of_each_choice [] bare passes all c = absurd c
of_each_choice ([] ∷ variants) bare passes all (inl tt) = (and_parts (passes (inl tt)) (list_all passes (map inr (choices variants bare))) all).0
of_each_choice ([] ∷ variants) bare passes all (inr c) =
    of_each_choice variants bare (λ d. passes (inr d)) (sym (all_mapped inr passes (choices variants bare)) ∙ (and_parts (passes (inl tt)) (list_all passes (map inr (choices variants bare))) all).1) c
of_each_choice ((field ∷ fields) ∷ variants) bare passes all c = absurd bare

pub of_each : (E : Record) (bare : Bare E.parts) (passes : E.D → Bool) → list_all passes (every E bare) ≡ true → (x : E.D) → passes x ≡ true
of_each E bare passes all x =
    ap passes (sym (E.eta x)) ∙ of_each_choice E.parts bare (λ c. passes (E.make c)) (sym (all_mapped E.make passes (choices E.parts bare)) ∙ all) (E.as_values x)

-- each stands in the list of all at the place of its variant

mapped_at : {X Y : Type 0} (f : X → Y) (xs : List X) (n : ℕ) (x : X) → slice_get xs n ≡ Some x → slice_get (map f xs) n ≡ Some (f x)
mapped_at f [] n x is = absurd (nothing is)
  where
    nothing : None ≡ Some x → ⊥
    nothing e = cc
mapped_at f (y ∷ ys) zero x is = ap (option_map f) is
mapped_at f (y ∷ ys) (suc n) x is = mapped_at f ys n x is

choice_at : (variants : List (List Field)) (bare : Bare variants) (c : Choice variants) → slice_get (choices variants bare) (tag (rowss variants) (intoss variants c)) ≡ Some c
choice_at [] bare c = absurd c
choice_at ([] ∷ variants) bare (inl tt) = refl
choice_at ([] ∷ variants) bare (inr c) = mapped_at inr (choices variants bare) (tag (rowss variants) (intoss variants c)) c (choice_at variants bare c)
choice_at ((field ∷ fields) ∷ variants) bare c = absurd bare

pub value_at : (E : Record) (bare : Bare E.parts) (x : E.D) → slice_get (every E bare) (tag_of (declared E) x) ≡ Some x
value_at E bare x =
    mapped_at E.make (choices E.parts bare) (tag_of (declared E) x) (E.as_values x) (choice_at E.parts bare (E.as_values x)) ∙ ap Some (E.eta x)
