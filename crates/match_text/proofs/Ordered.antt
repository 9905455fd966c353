-- Texts in the order of their octets, and in that of their numbers.
use Rattle.std.proofs.Common.{◌≡◌, ℕ, ◌<◌, ◌⊎◌, ◌↔◌, inl, inr, true, false, nat_eq, List, [], ◌∷◌, length, map, Option, None, Some, refl, sym, ap, subst, ◌∙◌, true≢false, arith}
use Rattle.std.specs.declared.cmp.Ordering.{Ordering}
use Rattle.std.specs.declared.cmp.Ordering.TheVariants.{Less, Equal, Greater}
use Rattle.std.specs.Cmp.{Equal-is, IsTotalOrder, unsigned_ties}
use Rattle.std.specs.Cmp.Lexicographic.{lists_ties, options_total, slice_cmp}
use Rattle.std.specs.Option.{option_cmp, option_eq}
use Rattle.std.specs.Ordering.{flip_args, is_eq, is_gt, is_le, is_lt, nat_cmp, ordering_reverse}
use Rattle.std.proofs.lemmas.Cmp.{back_total, nat_cmp_total, nat_list_cmp_total, on_total, upto}
use Rattle.match_text.specs.declared.comparators.Collation.{Collation}
use Rattle.match_text.specs.declared.comparators.Collation.TheVariants.{Octet, Casemap, Numeric}
use Rattle.match_text.specs.Comparator.{Same, ascii_casemap, octet, same}
use Rattle.match_text.specs.Order.{are_equal, number_cmp, number_of, order_of}
use Rattle.match_text.proofs.Deciding.{same-Decides}
use Rattle.match_text.proofs.Folding.{folded_same}

module _ (fold : ℕ → ℕ) where
  -- a text is greater than one that has ended before it
  pub goes_on : (a b : List ℕ) → 0 < length a → length b < 1 → Greater ≡ slice_cmp nat_cmp (map fold a) (map fold b)
  goes_on [] b some ended = absurd (omega arith)
  goes_on (x ∷ a) [] some ended = refl
  goes_on (x ∷ a) (y ∷ b) some ended = absurd (omega arith)

-- ALL ORDERS ARE TOTAL

-- the order of numbers is that of options turned twice, since infinite stands last
turned_twice : (m n : Option ℕ) → flip_args (option_cmp (flip_args nat_cmp)) m n ≡ number_cmp m n
turned_twice None None = refl
turned_twice None (Some n) = refl
turned_twice (Some m) None = refl
turned_twice (Some m) (Some n) = refl

number_cmp-total : IsTotalOrder number_cmp
number_cmp-total = subst IsTotalOrder (λ i m n. turned_twice m n i) (back_total (options_total (back_total nat_cmp_total)))

pub order_of-total : (collation : Collation) → IsTotalOrder (order_of collation)
order_of-total Octet = nat_list_cmp_total
order_of-total Casemap = on_total (map ascii_casemap) nat_list_cmp_total
order_of-total Numeric = on_total number_of number_cmp-total

-- AT MOST

most_greater : (r : Ordering) → is_le r ≡ true → is_gt r ≡ false
most_greater Less most = refl
most_greater Equal most = refl
most_greater Greater most = absurd (true≢false (sym most))

greater_most : (r : Ordering) → is_gt r ≡ false → is_le r ≡ true
greater_most Less none = refl
greater_most Equal none = refl
greater_most Greater none = absurd (true≢false none)

either_order : (r : Ordering) → (is_le (ordering_reverse r) ≡ true) ⊎ (is_le r ≡ true)
either_order Less = inr refl
either_order Equal = inr refl
either_order Greater = inl refl

both_orders : (r : Ordering) → is_le (ordering_reverse r) ≡ true → is_le r ≡ true → is_eq (ordering_reverse r) ≡ true
both_orders Less most least = absurd (true≢false (sym most))
both_orders Equal most least = refl
both_orders Greater most least = absurd (true≢false (sym least))

turned : (r : Ordering) → is_gt (ordering_reverse r) ≡ is_lt r
turned Less = refl
turned Equal = refl
turned Greater = refl

module _ (collation : Collation) (a b : List ℕ) where
  pub either : (is_le (order_of collation a b) ≡ true) ⊎ (is_le (order_of collation b a) ≡ true)
  either =
      subst (λ r. (is_le r ≡ true) ⊎ (is_le (order_of collation b a) ≡ true)) (sym ((order_of-total collation).antisymm a b))
      (either_order (order_of collation b a))

  pub both : is_le (order_of collation a b) ≡ true → is_le (order_of collation b a) ≡ true → is_eq (order_of collation a b) ≡ true
  both most least =
      let back = (order_of-total collation).antisymm a b in
      ap is_eq back ∙ both_orders (order_of collation b a) (sym (ap is_le back) ∙ most) least

  pub from_after : is_gt (order_of collation a b) ≡ is_lt (order_of collation b a)
  from_after = ap is_gt ((order_of-total collation).antisymm a b) ∙ turned (order_of collation b a)

pub transitive : (collation : Collation) (a b c : List ℕ) → is_le (order_of collation a b) ≡ true → is_le (order_of collation b c) ≡ true
    → is_le (order_of collation a c) ≡ true
transitive collation a b c first second =
    greater_most _ (upto (order_of-total collation) a b c (most_greater _ first) (most_greater _ second))

-- EQUAL

-- numbers are equal exactly if neither is less
number_ties : (m n : Option ℕ) → option_eq nat_eq m n ≡ is_eq (number_cmp m n)
number_ties None None = refl
number_ties None (Some n) = refl
number_ties (Some m) None = refl
number_ties (Some m) (Some n) = unsigned_ties m n

-- under each comparator, texts are equal exactly if they are in its order
pub are_equal-ties : (collation : Collation) (a b : List ℕ) → are_equal collation a b ≡ is_eq (order_of collation a b)
are_equal-ties Octet a b = lists_ties nat_cmp unsigned_ties a b
are_equal-ties Casemap a b =
    sym (folded_same ascii_casemap a b) ∙ lists_ties nat_cmp unsigned_ties (map ascii_casemap a) (map ascii_casemap b)
are_equal-ties Numeric a b = number_ties (number_of a) (number_of b)

-- if the test of sameness goes by the order, texts are equal in it exactly if they are the same
tied_same : (fold : ℕ → ℕ) (a b : List ℕ) (order : Ordering) → same fold a b ≡ is_eq order → (order ≡ Equal) ↔ Same fold a b
tied_same fold a b order alike =
    let decides = same-Decides fold a b in
    let ties = Equal-is order in (λ tied. decides.0 (alike ∙ ties.1 tied), λ equal. ties.0 (sym alike ∙ decides.1 equal))

pub octet_tied : (a b : List ℕ) → (order_of Octet a b ≡ Equal) ↔ Same octet a b
octet_tied a b = tied_same octet a b (order_of Octet a b) (are_equal-ties Octet a b)

pub casemap_tied : (a b : List ℕ) → (order_of Casemap a b ≡ Equal) ↔ Same ascii_casemap a b
casemap_tied a b = tied_same ascii_casemap a b (order_of Casemap a b) (are_equal-ties Casemap a b)
