-- The least fit is the fit that is least in dictionary order.
use Rattle.std.proofs.Common.{◌≡◌, ℕ, zero, suc, ◌+◌, ◌<◌, ◌≤◌, inl, inr, ⊎_elim, Bool, true, false, ◌==◌, cond, List, [], ◌∷◌, length, drop, Option, None, Some, refl, sym, ap, subst, arith}
use Rattle.std.specs.Option.{MatchOption, is_some, option_map, option_or}
use Rattle.std.proofs.lemmas.Bool.{eqb-false, eqb-true, false≢true}
use Rattle.match_text.specs.Wildcard.{AtMost, Fits, IsLeastFit, items_of, least_fit, matched, one_more, star_fit, taken, wildcard_count}
use Rattle.match_text.specs.declared.pattern.Item.{Item}
use Rattle.match_text.specs.declared.pattern.Item.TheVariants.{Star, Question, Literal}

-- the lengths fit, and are at most any others that fit
record IsLeast (P : List ℕ → Type 0) (lengths : List ℕ) : Type 0 where
  pub fits : P lengths
  pub least : (others : List ℕ) → P others → AtMost lengths others

-- an answer is the least of the lengths that fit, or none if none fit
abbrev Answers : (List ℕ → Type 0) → Option (List ℕ) → Type 0
Answers P r = MatchOption r ((lengths : List ℕ) → P lengths → ⊥) (IsLeast P)

-- the lengths fit a star before items, if P says which lengths fit these
abbrev StarFits : (List ℕ → List ℕ → Type 0) → List ℕ → List ℕ → Type 0
StarFits P value [] = ⊥
StarFits P value (n ∷ lengths) = (n ≤ length value) × P (drop n value) lengths

abbrev with_zero : Option (List ℕ) → Option (List ℕ)
with_zero r = option_map (λ lengths. 0 ∷ lengths) r

none_at_all : (P : List ℕ → List ℕ → Type 0) → ((lengths : List ℕ) → P [] lengths → ⊥) → (lengths : List ℕ) → StarFits P [] lengths → ⊥
none_at_all P nowhere [] fits = fits
none_at_all P nowhere (zero ∷ lengths) fits = nowhere lengths fits.1
none_at_all P nowhere (suc n ∷ lengths) fits = absurd (omega (arith, fits.0))

least_at_end : (P : List ℕ → List ℕ → Type 0) (lengths : List ℕ) → IsLeast (P []) lengths → (others : List ℕ) → StarFits P [] others → AtMost (0 ∷ lengths) others
least_at_end P lengths is [] fits = fits
least_at_end P lengths is (zero ∷ others) fits = inr (refl, is.least others fits.1)
least_at_end P lengths is (suc n ∷ others) fits = absurd (omega (arith, fits.0))

answers_at_end : (P : List ℕ → List ℕ → Type 0) (r : Option (List ℕ)) → Answers (P []) r → Answers (StarFits P []) (with_zero r)
answers_at_end P None nowhere = none_at_all P nowhere
answers_at_end P (Some lengths) is = record { fits = (omega arith, is.fits); least = least_at_end P lengths is }

least_here : (P : List ℕ → List ℕ → Type 0) (x : ℕ) (value lengths : List ℕ) → IsLeast (P (x ∷ value)) lengths → (others : List ℕ) → StarFits P (x ∷ value) others → AtMost (0 ∷ lengths) others
least_here P x value lengths is [] fits = fits
least_here P x value lengths is (zero ∷ others) fits = inr (refl, is.least others fits.1)
least_here P x value lengths is (suc n ∷ others) fits = inl (omega arith)

none_further : (P : List ℕ → List ℕ → Type 0) (x : ℕ) (value : List ℕ) → ((lengths : List ℕ) → P (x ∷ value) lengths → ⊥) → ((lengths : List ℕ) → StarFits P value lengths → ⊥) → (lengths : List ℕ) → StarFits P (x ∷ value) lengths → ⊥
none_further P x value here after [] fits = fits
none_further P x value here after (zero ∷ lengths) fits = here lengths fits.1
none_further P x value here after (suc n ∷ lengths) fits = after (n ∷ lengths) (omega (arith, fits.0), fits.1)

one_more_fits : (P : List ℕ → List ℕ → Type 0) (x : ℕ) (value lengths : List ℕ) → StarFits P value lengths → StarFits P (x ∷ value) (one_more lengths)
one_more_fits P x value [] fits = fits
one_more_fits P x value (n ∷ lengths) fits = (omega (arith, fits.0), fits.1)

one_more_at_most : (m n : ℕ) (lengths others : List ℕ) → AtMost (m ∷ lengths) (n ∷ others) → AtMost (suc m ∷ lengths) (suc n ∷ others)
one_more_at_most m n lengths others most =
    ⊎_elim (λ (less : m < n). inl (omega arith)) (λ (same : (m ≡ n) × AtMost lengths others). inr (ap suc same.0, same.1)) most

least_further : (P : List ℕ → List ℕ → Type 0) (x : ℕ) (value lengths : List ℕ) → ((lengths : List ℕ) → P (x ∷ value) lengths → ⊥) → IsLeast (StarFits P value) lengths → (others : List ℕ) → StarFits P (x ∷ value) others → AtMost (one_more lengths) others
least_further P x value [] here is others fits = tt
least_further P x value (m ∷ lengths) here is [] fits = fits
least_further P x value (m ∷ lengths) here is (zero ∷ others) fits = absurd (here others fits.1)
least_further P x value (m ∷ lengths) here is (suc n ∷ others) fits =
    one_more_at_most m n lengths others (is.least (n ∷ others) (omega (arith, fits.0), fits.1))

answers_further : (P : List ℕ → List ℕ → Type 0) (x : ℕ) (value : List ℕ) (r s : Option (List ℕ)) → Answers (P (x ∷ value)) r → Answers (StarFits P value) s → Answers (StarFits P (x ∷ value)) (option_or (with_zero r) (option_map one_more s))
answers_further P x value (Some lengths) s is after = record { fits = (omega arith, is.fits); least = least_here P x value lengths is }
answers_further P x value None None here after = none_further P x value here after
answers_further P x value None (Some lengths) here after = record {
  fits = one_more_fits P x value lengths after.fits;
  least = least_further P x value lengths here after;
}

star_answers : (P : List ℕ → List ℕ → Type 0) (after : List ℕ → Option (List ℕ)) → ((value : List ℕ) → Answers (P value) (after value)) → (value : List ℕ) → Answers (StarFits P value) (star_fit after value)
star_answers P after answers [] = answers_at_end P (after []) (answers [])
star_answers P after answers (x ∷ value) =
    answers_further P x value (after (x ∷ value)) (star_fit after value) (answers (x ∷ value)) (star_answers P after answers value)

-- the least fit of all items, by whether the first is an octet, a `?` or a star

module _ (fold : ℕ → ℕ) where
  literal_answers : (b x : ℕ) (items : List Item) (value : List ℕ) (same : Bool) (r : Option (List ℕ)) → (fold x == fold b) ≡ same → Answers (Fits fold items value) r → Answers (Fits fold (Literal b ∷ items) (x ∷ value)) (cond same r None)
  literal_answers b x items value false r is answers = λ lengths fits. eqb-false _ _ is fits.0
  literal_answers b x items value true None is nowhere = λ lengths fits. nowhere lengths fits.1
  literal_answers b x items value true (Some lengths) is least = record {
    fits = (eqb-true _ _ is, least.fits);
    least = λ others fits. least.least others fits.1;
  }

  no_question : (x : ℕ) (items : List Item) (value : List ℕ) → ((lengths : List ℕ) → Fits fold items value lengths → ⊥) → (lengths : List ℕ) → Fits fold (Question ∷ items) (x ∷ value) lengths → ⊥
  no_question x items value nowhere [] fits = fits
  no_question x items value nowhere (n ∷ lengths) fits = nowhere lengths fits.1

  least_question : (x : ℕ) (items : List Item) (value lengths : List ℕ) → IsLeast (Fits fold items value) lengths → (others : List ℕ) → Fits fold (Question ∷ items) (x ∷ value) others → AtMost (1 ∷ lengths) others
  least_question x items value lengths is [] fits = fits
  least_question x items value lengths is (n ∷ others) fits = inr (sym fits.0, is.least others fits.1)

  question_answers : (x : ℕ) (items : List Item) (value : List ℕ) (r : Option (List ℕ)) → Answers (Fits fold items value) r → Answers (Fits fold (Question ∷ items) (x ∷ value)) (option_map (λ lengths. 1 ∷ lengths) r)
  question_answers x items value None nowhere = no_question x items value nowhere
  question_answers x items value (Some lengths) is = record { fits = (refl, is.fits); least = least_question x items value lengths is }

  least_nothing : (others : List ℕ) → Fits fold [] [] others → AtMost [] others
  least_nothing others fits = tt

  star_as : (items : List Item) (value lengths : List ℕ) → StarFits (Fits fold items) value lengths → Fits fold (Star ∷ items) value lengths
  star_as items value [] fits = fits
  star_as items value (n ∷ lengths) fits = fits

  as_star : (items : List Item) (value lengths : List ℕ) → Fits fold (Star ∷ items) value lengths → StarFits (Fits fold items) value lengths
  as_star items value [] fits = fits
  as_star items value (n ∷ lengths) fits = fits

  star_answers_as : (items : List Item) (value : List ℕ) (r : Option (List ℕ)) → Answers (StarFits (Fits fold items) value) r → Answers (Fits fold (Star ∷ items) value) r
  star_answers_as items value None nowhere = λ lengths fits. nowhere lengths (as_star items value lengths fits)
  star_answers_as items value (Some lengths) is = record {
    fits = star_as items value lengths is.fits;
    least = λ others fits. is.least others (as_star items value others fits);
  }

  answers : (items : List Item) (value : List ℕ) → Answers (Fits fold items value) (least_fit fold items value)
  unfolding least_fit
  answers [] [] = record { fits = tt; least = least_nothing }
  answers [] (x ∷ value) = λ lengths fits. fits
  answers (Literal b ∷ items) [] = λ lengths fits. fits
  answers (Literal b ∷ items) (x ∷ value) = literal_answers b x items value (fold x == fold b) _ refl (answers items value)
  answers (Question ∷ items) [] = λ lengths fits. fits
  answers (Question ∷ items) (x ∷ value) = question_answers x items value _ (answers items value)
  answers (Star ∷ items) value = star_answers_as items value _ (star_answers (Fits fold items) (least_fit fold items) (answers items) value)

  at_some : (items : List Item) (value lengths : List ℕ) (r : Option (List ℕ)) → Answers (Fits fold items value) r → r ≡ Some lengths → IsLeastFit fold items value lengths
  at_some items value lengths None nowhere is = cc
  at_some items value lengths (Some found) least is =
      let same : found ≡ lengths = cc in
      subst (IsLeastFit fold items value) same (record { fits = least.fits; least = least.least })

  -- two lists that are at most one another are the same
  both_ways : (lengths others : List ℕ) → AtMost lengths others → AtMost others lengths → lengths ≡ others
  both_ways [] [] most least = refl
  both_ways [] (n ∷ others) most least = absurd least
  both_ways (m ∷ lengths) [] most least = absurd most
  both_ways (m ∷ lengths) (n ∷ others) most least = ⊎_elim
      (λ (less : m < n). ⊎_elim (λ (more : n < m). absurd (omega arith)) (λ (same : (n ≡ m) × AtMost others lengths). absurd (omega (arith, same.0))) least)
      (λ (same : (m ≡ n) × AtMost lengths others). ⊎_elim
      (λ (more : n < m). absurd (omega (arith, same.0)))
      (λ (back : (n ≡ m) × AtMost others lengths). let rest = both_ways lengths others same.1 back.1 in let first = same.0 in cc)
      least)
      most

  to_some : (items : List Item) (value lengths : List ℕ) (r : Option (List ℕ)) → Answers (Fits fold items value) r → IsLeastFit fold items value lengths → r ≡ Some lengths
  to_some items value lengths None nowhere is = absurd (nowhere lengths is.fits)
  to_some items value lengths (Some found) least is =
      ap Some (both_ways found lengths (least.least lengths is.fits) (is.least found least.fits))

  at_none : (items : List Item) (value : List ℕ) (r : Option (List ℕ)) → Answers (Fits fold items value) r → r ≡ None → (lengths : List ℕ) → Fits fold items value lengths → ⊥
  at_none items value None nowhere is = nowhere
  at_none items value (Some found) least is = cc

  to_none : (items : List Item) (value : List ℕ) (r : Option (List ℕ)) → Answers (Fits fold items value) r → ((lengths : List ℕ) → Fits fold items value lengths → ⊥) → r ≡ None
  to_none items value None nowhere is = refl
  to_none items value (Some found) least is = absurd (is found least.fits)

  pub least_fit-some : (items : List Item) (value lengths : List ℕ) → (least_fit fold items value ≡ Some lengths → IsLeastFit fold items value lengths) × (IsLeastFit fold items value lengths → least_fit fold items value ≡ Some lengths)
  least_fit-some items value lengths = (at_some items value lengths _ (answers items value), to_some items value lengths _ (answers items value))

  pub least_fit-none : (items : List Item) (value : List ℕ) → (least_fit fold items value ≡ None → (lengths : List ℕ) → Fits fold items value lengths → ⊥) × (((lengths : List ℕ) → Fits fold items value lengths → ⊥) → least_fit fold items value ≡ None)
  least_fit-none items value = (at_none items value _ (answers items value), to_none items value _ (answers items value))

  -- a fit has a length for each wildcard
  pub fit_lengths : (items : List Item) (value lengths : List ℕ) → Fits fold items value lengths → length lengths ≡ wildcard_count items
  fit_lengths [] [] [] fits = refl
  fit_lengths [] [] (n ∷ lengths) fits = absurd fits
  fit_lengths [] (x ∷ value) lengths fits = absurd fits
  fit_lengths (Literal b ∷ items) [] lengths fits = absurd fits
  fit_lengths (Literal b ∷ items) (x ∷ value) lengths fits = fit_lengths items value lengths fits.1
  fit_lengths (Question ∷ items) [] lengths fits = absurd fits
  fit_lengths (Question ∷ items) (x ∷ value) [] fits = absurd fits
  fit_lengths (Question ∷ items) (x ∷ value) (n ∷ lengths) fits = ap suc (fit_lengths items value lengths fits.1)
  fit_lengths (Star ∷ items) value [] fits = absurd fits
  fit_lengths (Star ∷ items) value (n ∷ lengths) fits = ap suc (fit_lengths items (drop n value) lengths fits.1)

  -- as many slices are taken as there are lengths
  taken_count : (items : List Item) (lengths value : List ℕ) → length lengths ≡ wildcard_count items → length (taken items lengths value) ≡ wildcard_count items
  taken_count [] lengths value same = refl
  taken_count (Literal b ∷ items) lengths value same = taken_count items lengths (drop 1 value) same
  taken_count (Question ∷ items) [] value same = absurd (omega (arith, same))
  taken_count (Question ∷ items) (n ∷ lengths) value same = ap suc (taken_count items lengths (drop n value) (omega (arith, same)))
  taken_count (Star ∷ items) [] value same = absurd (omega (arith, same))
  taken_count (Star ∷ items) (n ∷ lengths) value same = ap suc (taken_count items lengths (drop n value) (omega (arith, same)))

  count_matched : (items : List Item) (value : List ℕ) (r : Option (List ℕ)) (captures : List (List ℕ)) → Answers (Fits fold items value) r → option_map (λ lengths. value ∷ taken items lengths value) r ≡ Some captures → length captures ≡ wildcard_count items + 1
  count_matched items value None captures answers is = cc
  count_matched items value (Some lengths) captures answers is =
      let same : value ∷ taken items lengths value ≡ captures = cc in
      let count = taken_count items lengths value (fit_lengths items value lengths answers.fits) in
      rw (← same) (omega (arith, count))

  -- captures are the whole value and a text for each wildcard
  pub matched-count : (value pattern : List ℕ) (captures : List (List ℕ)) → matched fold value pattern ≡ Some captures → length captures ≡ wildcard_count (items_of pattern) + 1
  unfolding matched
  matched-count value pattern captures is = count_matched (items_of pattern) value (least_fit fold (items_of pattern) value) captures (answers (items_of pattern) value) is

  none_matched : (items : List Item) (value : List ℕ) (r : Option (List ℕ)) → Answers (Fits fold items value) r → (option_map (λ lengths. value ∷ taken items lengths value) r ≡ None → (lengths : List ℕ) → Fits fold items value lengths → ⊥) × (((lengths : List ℕ) → Fits fold items value lengths → ⊥) → option_map (λ lengths. value ∷ taken items lengths value) r ≡ None)
  none_matched items value None nowhere = (λ is. nowhere, λ none. refl)
  none_matched items value (Some lengths) least = (λ is. cc, λ none. absurd (none lengths least.fits))

  -- nothing is matched exactly if no fit exists
  pub matched-none : (value pattern : List ℕ) → (matched fold value pattern ≡ None → (lengths : List ℕ) → Fits fold (items_of pattern) value lengths → ⊥) × (((lengths : List ℕ) → Fits fold (items_of pattern) value lengths → ⊥) → matched fold value pattern ≡ None)
  unfolding matched
  matched-none value pattern = none_matched (items_of pattern) value (least_fit fold (items_of pattern) value) (answers (items_of pattern) value)

  -- an answer is absent exactly if no fit exists
  pub none_answered : (value pattern : List ℕ) (r : Option (List (List ℕ))) → r ≡ matched fold value pattern → (is_some r ≡ false → (lengths : List ℕ) → Fits fold (items_of pattern) value lengths → ⊥) × (((lengths : List ℕ) → Fits fold (items_of pattern) value lengths → ⊥) → is_some r ≡ false)
  none_answered value pattern None is = (λ none. (matched-none value pattern).0 (sym is), λ none. refl)
  none_answered value pattern (Some captures) is = (λ none. absurd (false≢true (sym none)), λ none. let nothing = (matched-none value pattern).1 none in cc)
