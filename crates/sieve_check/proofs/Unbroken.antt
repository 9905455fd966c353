-- An element without a breach breaks no rule.
use Rattle.std.proofs.Common.{◌≡◌, ℕ, Bool, true, false, not, ◌&&◌, List, [], ◌∷◌, ◌++◌, None, Some, slice_get, refl, sym, ap, ◌∙◌, arith}
use Rattle.std.proofs.lemmas.List.Elements.{All-cons}
use Rattle.std.specs.List.{All, list_all}
use Rattle.sieve_syntax.specs.Tree.{Command}
use Rattle.sieve_profile.specs.Profile.{Profile}
use Rattle.sieve_check.specs.Breach.{Breach, breach_if, breaches_at, breaches_by, breaches_in, breaches_of, breaks, first_breach, line_of}
use Rattle.sieve_table.specs.Rule.{all_rules}
use Rattle.sieve_check.specs.Element.{Element, elements_of}
use Rattle.sieve_table.specs.declared.rule.Rule.{Rule}
use Rattle.sieve_profile.proofs.Each.{of_each}
use Rattle.sieve_table.specs.contracts.rule.Rule as every_rule
use Rattle.sieve_check.proofs.Searches.{in_turn, cons_in}

not_empty : (b : Breach) (bs : List Breach) → b ∷ bs ≡ [] → ⊥
not_empty b bs e = cc

-- none of some rules is broken
none_broken : (broken : Rule → Bool) (line : ℕ) (rules : List Rule) → breaches_by broken line rules ≡ [] → list_all (λ rule. not (broken rule)) rules ≡ true
none_broken broken line [] none = refl
none_broken broken line (rule ∷ rules) none = by_rule (broken rule) none (none_broken broken line rules)
  where
    by_rule : (does : Bool) → breach_if does line rule ++ breaches_by broken line rules ≡ [] → (breaches_by broken line rules ≡ [] → list_all (λ rule. not (broken rule)) rules ≡ true) → (not does && list_all (λ rule. not (broken rule)) rules) ≡ true
    by_rule true none rest = absurd (not_empty _ _ none)
    by_rule false none rest = rest none

pub keeps : (e : Element) → breaches_at e ≡ [] → (rule : Rule) → breaks e rule ≡ false
unfolding breaches_at
keeps e none rule = not_so (breaks e rule) (of_each every_rule.enum tt (λ rule. not (breaks e rule)) (none_broken (breaks e) (line_of e) all_rules none) rule)
  where
    not_so : (b : Bool) → not b ≡ true → b ≡ false
    not_so true is = sym is
    not_so false is = refl

-- where none of some rules is broken, there is no breach
pub no_breach : (broken : Rule → Bool) (line : ℕ) (rules : List Rule) → ((rule : Rule) → broken rule ≡ false) → breaches_by broken line rules ≡ []
no_breach broken line [] none = refl
no_breach broken line (rule ∷ rules) none = ap (λ b. breach_if b line rule ++ breaches_by broken line rules) (none rule) ∙ no_breach broken line rules none

-- ELEMENTS IN TURN

both_empty : (xs ys : List Breach) → xs ++ ys ≡ [] → (xs ≡ []) × (ys ≡ [])
both_empty [] ys none = (refl, none)
both_empty (x ∷ xs) ys none = absurd (not_empty _ _ none)

pub none_in_both : (xs ys : List Element) → breaches_in (xs ++ ys) ≡ [] → (breaches_in xs ≡ []) × (breaches_in ys ≡ [])
none_in_both xs ys none = both_empty (breaches_in xs) (breaches_in ys) (sym (in_turn xs ys) ∙ none)

pub nothing_before : (e : Element) (es : List Element) → breaches_in (e ∷ es) ≡ [] → (breaches_at e ≡ []) × (breaches_in es ≡ [])
nothing_before e es none = both_empty (breaches_at e) (breaches_in es) (sym (cons_in e es) ∙ none)

-- THE LAW

pub all_keep : (es : List Element) → breaches_in es ≡ [] → All (λ e. (rule : Rule) → breaks e rule ≡ false) es
all_keep [] none = λ k d below. absurd (omega arith)
all_keep (e ∷ es) none =
    let parts = nothing_before e es none in
    All-cons (λ e. (rule : Rule) → breaks e rule ≡ false) e es (keeps e parts.0) (all_keep es parts.1)

pub none_first : (bs : List Breach) → slice_get bs 0 ≡ None → bs ≡ []
none_first [] none = refl
none_first (b ∷ bs) none = absurd (some_none b none)
  where
    some_none : (b : Breach) → Some b ≡ None → ⊥
    some_none b e = cc

pub no_rule_broken : (profile : Profile) (tree : List Command) → first_breach profile tree ≡ None → All (λ e. (rule : Rule) → breaks e rule ≡ false) (elements_of profile tree)
no_rule_broken profile tree none = all_keep (elements_of profile tree) (none_first (breaches_of profile tree) none)

pub ruleset unbroken = (no_rule_broken)
