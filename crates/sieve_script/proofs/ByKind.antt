-- Tags are kept at the places of their kinds.
use Rattle.std.proofs.Common.{◌≡◌, ℕ, zero, suc, ◌<◌, Bool, true, false, nat_eq, List, [], ◌∷◌, length, Option, None, Some, is_none, slice_index_or, slice_set, refl, sym, ap, ◌∙◌, arith}
use Rattle.std.proofs.lemmas.Bool.Decides.{nat_tests}
use Rattle.std.proofs.lemmas.List.{get_or-set_same, get_or-set_other}
use Rattle.std.specs.List.{list_all}
use Rattle.std.specs.Prelude.{if◌then◌else◌}
use Rattle.sieve_script.specs.Given.{Tags, first_or, tag_at}
use Rattle.sieve_script.specs.declared.label.Label.{Label}
use Rattle.sieve_table.proofs.Telling.{one_kind, own_kind}
use Rattle.sieve_table.specs.Table.{same_kind}
use Rattle.sieve_table.specs.declared.row.TagKind.{TagKind}
use Rattle.sieve_table.specs.declared.tag.Tag.{Tag}

-- AT THE PLACES OF KINDS

set_by : (found : List (Option Tag)) (n m : ℕ) (tag : Tag) (same : Bool) → nat_eq n m ≡ same → n < length found
    → slice_index_or (slice_set found n (Some tag)) m None ≡ (if same then Some tag else slice_index_or found m None)
set_by found n m tag true e within = grind (arith, nat_tests, get_or-set_same)
set_by found n m tag false e within = grind (arith, nat_tests, get_or-set_other)

pub set_at : (found : List (Option Tag)) (n m : ℕ) (tag : Tag) → n < length found → slice_index_or (slice_set found n (Some tag)) m None ≡ (if nat_eq n m then Some tag else slice_index_or found m None)
set_at found n m tag within = set_by found n m tag (nat_eq n m) refl within

pub none_at : (found : List (Option Tag)) (m : ℕ) → list_all is_none found ≡ true → slice_index_or found m None ≡ None
none_at [] m none = refl
none_at (Some tag ∷ found) m none = absurd (never none)
  where
    never : false ≡ true → ⊥
    never e = cc
none_at (None ∷ found) zero none = refl
none_at (None ∷ found) (suc m) none = none_at found m none

-- FIRST OF SEVERAL

pub first_or_none : {A : Type 0} (o : Option A) → first_or o None ≡ o
first_or_none None = refl
first_or_none (Some a) = refl

pub first_of_three : {A : Type 0} (a b c : Option A) → first_or (first_or a b) c ≡ first_or a (first_or b c)
first_of_three None b c = refl
first_of_three (Some a) b c = refl

-- ANOTHER TAG AFTER OTHERS

-- an argument that is no tag changes nothing
pub no_tag : (tags : Tags) (label : Label) → ((k : TagKind) → tag_at k label ≡ None) → tags ≡ (λ k. first_or (tags k) (tag_at k label))
no_tag tags label none = λ i k. (sym (first_or_none (tags k)) ∙ ap (first_or (tags k)) (sym (none k))) i

module _ (tags : Tags) (its : TagKind) (tag : Tag) where
  -- where there is one of its kind, nothing changes
  pub kept : (first : Tag) → tags its ≡ Some first → (k : TagKind) → tags k ≡ first_or (tags k) (if same_kind k its then Some tag else None)
  kept first is k = by_kind (same_kind k its) refl
    where
      by_kind : (same : Bool) → same_kind k its ≡ same → tags k ≡ first_or (tags k) (if same then Some tag else None)
      by_kind true e = let there : tags k ≡ Some first = ap tags (one_kind k its e) ∙ is in there ∙ sym (ap (λ o. first_or o (Some tag)) there)
      by_kind false e = sym (first_or_none (tags k))

  -- where there is none, it is the one of its kind
  pub noted : tags its ≡ None → (k : TagKind) → (if same_kind its k then Some tag else tags k) ≡ first_or (tags k) (if same_kind k its then Some tag else None)
  noted is k = by_kinds (same_kind its k) (same_kind k its) refl refl
    where
      both : (a b : TagKind) → same_kind a b ≡ true → same_kind b a ≡ true
      both a b e = ap (same_kind b) (one_kind a b e) ∙ own_kind b

      never : false ≡ true → ⊥
      never e = cc

      by_kinds : (there back : Bool) → same_kind its k ≡ there → same_kind k its ≡ back → (if there then Some tag else tags k) ≡ first_or (tags k) (if back then Some tag else None)
      by_kinds true true e f = sym (ap (λ o. first_or o (Some tag)) (ap tags (one_kind k its f) ∙ is))
      by_kinds true false e f = absurd (never (sym f ∙ both its k e))
      by_kinds false true e f = absurd (never (sym e ∙ both k its f))
      by_kinds false false e f = sym (first_or_none (tags k))
