-- The texts that are taken under a fit are slices of the value, in turn.
use Rattle.std.proofs.Common.{◌≡◌, ℕ, List, [], ◌∷◌, length, map, take, drop, refl, sym, ap, subst}
use Rattle.std.proofs.lemmas.List.{length-take-le, take-append-drop}
use Rattle.match_text.specs.Wildcard.{Fits, TakeInTurn, taken}
use Rattle.match_text.specs.declared.pattern.Item.{Item}
use Rattle.match_text.specs.declared.pattern.Item.TheVariants.{Star, Question, Literal}

pub slices_taken : (fold : ℕ → ℕ) (items : List Item) (value lengths : List ℕ) → Fits fold items value lengths → TakeInTurn fold items value (taken items lengths value)
slices_taken fold [] [] [] fits = (refl, refl)
slices_taken fold [] [] (n ∷ lengths) fits = absurd fits
slices_taken fold [] (x ∷ value) lengths fits = absurd fits
slices_taken fold (Literal b ∷ items) [] lengths fits = fits
slices_taken fold (Literal b ∷ items) (x ∷ value) lengths fits = (fits.0, slices_taken fold items value lengths fits.1)
slices_taken fold (Question ∷ items) [] lengths fits = absurd fits
slices_taken fold (Question ∷ items) (x ∷ value) [] fits = fits
slices_taken fold (Question ∷ items) (x ∷ value) (n ∷ lengths) fits =
    subst (λ k. TakeInTurn fold (Question ∷ items) (x ∷ value) (take k (x ∷ value) ∷ taken items lengths (drop k (x ∷ value)))) (sym fits.0)
    (refl, (value, (refl, slices_taken fold items value lengths fits.1)))
slices_taken fold (Star ∷ items) value [] fits = fits
slices_taken fold (Star ∷ items) value (n ∷ lengths) fits =
    (drop n value, (sym (take-append-drop n value), slices_taken fold items (drop n value) lengths fits.1))

pub lengths_taken : (fold : ℕ → ℕ) (items : List Item) (value lengths : List ℕ) → Fits fold items value lengths → map length (taken items lengths value) ≡ lengths
lengths_taken fold [] [] [] fits = refl
lengths_taken fold [] [] (n ∷ lengths) fits = absurd fits
lengths_taken fold [] (x ∷ value) lengths fits = absurd fits
lengths_taken fold (Literal b ∷ items) [] lengths fits = absurd fits
lengths_taken fold (Literal b ∷ items) (x ∷ value) lengths fits = lengths_taken fold items value lengths fits.1
lengths_taken fold (Question ∷ items) [] lengths fits = absurd fits
lengths_taken fold (Question ∷ items) (x ∷ value) [] fits = absurd fits
lengths_taken fold (Question ∷ items) (x ∷ value) (n ∷ lengths) fits =
    subst (λ k. map length (take k (x ∷ value) ∷ taken items lengths (drop k (x ∷ value))) ≡ k ∷ lengths) (sym fits.0)
    (ap (λ rest. 1 ∷ rest) (lengths_taken fold items value lengths fits.1))
lengths_taken fold (Star ∷ items) value [] fits = absurd fits
lengths_taken fold (Star ∷ items) value (n ∷ lengths) fits =
    let first : length (take n value) ≡ n = length-take-le n value fits.0 in
    let rest = lengths_taken fold items (drop n value) lengths fits.1 in
    rw (first, rest)
