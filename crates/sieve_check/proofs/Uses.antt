-- The breaches that are found in a command or test of a row.
use Rattle.std.proofs.Common.{◌≡◌, ℕ, Bool, true, false, not, ◌&&◌, List, [], ◌++◌, refl, sym, ap, ◌∙◌, subst}
use Rattle.sieve_syntax.specs.Tree.{Argument, Tests}
use Rattle.sieve_check.specs.Breach.{Breach, breach_if, breaches_in, use_lacks}
use Rattle.sieve_check.specs.CheckFault.{IsFirst}
use Rattle.sieve_check.specs.Context.{Context}
use Rattle.sieve_check.specs.Element.{among, labelled_elements, judged_labels}
use Rattle.sieve_script.specs.Label.{labels_of, row_is_filled}
use Rattle.sieve_script.specs.Shape.{known_labels, known_shapes}
use Rattle.sieve_table.specs.Table.{Row}
use Rattle.sieve_check.specs.Use.{are_bad, has_bad_arguments, has_bad_tag}
use Rattle.sieve_check.specs.view.Use.{row_found}
use Rattle.sieve_script.specs.declared.label.Label.{Label}
use Rattle.sieve_table.specs.declared.rule.Rule.TheVariants.{NotRequired, ElsePlace, BadTag, BadArguments}
use Rattle.sieve_check.specs.declared.validator.CheckFault.{CheckFault}
use Rattle.sieve_check.specs.declared.validator.CheckFault.TheVariants as faults

module _ (alone : Bool) (context : Context) (line : ℕ) (row : Row) (args : List Argument) (ts : Tests) (b : Bool) where
  -- The breaches that are found. The flags say whether something isn't required, a branch stands
  -- alone, a tag is bad, and arguments are bad.
  by_uses : Bool → Bool → Bool → Bool → List Breach
  by_uses lacking apart bad_tag bad_arguments =
      (breach_if lacking line NotRequired ++ (breach_if apart line ElsePlace ++ (breach_if bad_tag line BadTag ++ (breach_if bad_arguments line BadArguments ++ []))))
      ++ breaches_in (labelled_elements (among context (known_labels context.profile row args)) (judged_labels (not bad_tag && not bad_arguments) (known_labels context.profile row args)) args)

  found_by : row_found alone context line row args ts b ≡ by_uses (use_lacks context.profile context.required row args) alone (has_bad_tag (labels_of row (known_shapes context.profile row.tags args))) (has_bad_arguments row (known_shapes context.profile row.tags args) ts b)
  unfolding by_uses
  found_by = refl

  module _ (labels : List Label) (same : labels ≡ labels_of row (known_shapes context.profile row.tags args)) where
    -- whether arguments are bad
    abbrev bad : Bool
    bad = are_bad (row_is_filled row (known_shapes context.profile row.tags args)) row labels ts b

    found_at : (lacking bad_tag bad_arguments : Bool) → use_lacks context.profile context.required row args ≡ lacking → has_bad_tag labels ≡ bad_tag → are_bad (row_is_filled row (known_shapes context.profile row.tags args)) row labels ts b ≡ bad_arguments
        → row_found alone context line row args ts b ≡ by_uses lacking alone bad_tag bad_arguments
    found_at lacking bad_tag bad_arguments lacks tag bad =
        found_by
        ∙ ap (λ l. by_uses (use_lacks context.profile context.required row args) alone (has_bad_tag l) (are_bad (row_is_filled row (known_shapes context.profile row.tags args)) row l ts b)) (sym same)
        ∙ ap (λ x. by_uses x alone (has_bad_tag labels) (are_bad (row_is_filled row (known_shapes context.profile row.tags args)) row labels ts b)) lacks
        ∙ ap (λ x. by_uses lacking alone x (are_bad (row_is_filled row (known_shapes context.profile row.tags args)) row labels ts b)) tag
        ∙ ap (by_uses lacking alone bad_tag) bad

    pub found_lacking : use_lacks context.profile context.required row args ≡ true → IsFirst (row_found alone context line row args ts b) (faults.Breach line NotRequired)
    unfolding by_uses
    found_lacking lacks = subst (λ bs. IsFirst bs (faults.Breach line NotRequired)) (sym (found_at true (has_bad_tag labels) bad lacks refl refl)) refl

    pub found_alone : use_lacks context.profile context.required row args ≡ false → alone ≡ true → IsFirst (row_found alone context line row args ts b) (faults.Breach line ElsePlace)
    unfolding by_uses
    found_alone lacks is = subst (λ bs. IsFirst bs (faults.Breach line ElsePlace)) (sym (found_at false (has_bad_tag labels) bad lacks refl refl ∙ ap (λ x. by_uses false x (has_bad_tag labels) bad) is)) refl

    pub found_tag : use_lacks context.profile context.required row args ≡ false → alone ≡ false → has_bad_tag labels ≡ true → IsFirst (row_found alone context line row args ts b) (faults.Breach line BadTag)
    unfolding by_uses
    found_tag lacks stands is = subst (λ bs. IsFirst bs (faults.Breach line BadTag)) (sym (found_at false true bad lacks is refl ∙ ap (λ x. by_uses false x true bad) stands)) refl

    pub found_arguments : use_lacks context.profile context.required row args ≡ false → alone ≡ false → has_bad_tag labels ≡ false → are_bad (row_is_filled row (known_shapes context.profile row.tags args)) row labels ts b ≡ true → IsFirst (row_found alone context line row args ts b) (faults.Breach line BadArguments)
    unfolding by_uses
    found_arguments lacks stands fine is = subst (λ bs. IsFirst bs (faults.Breach line BadArguments)) (sym (found_at false false true lacks fine is ∙ ap (λ x. by_uses false x false true) stands)) refl

    inside : use_lacks context.profile context.required row args ≡ false → alone ≡ false → has_bad_tag labels ≡ false → are_bad (row_is_filled row (known_shapes context.profile row.tags args)) row labels ts b ≡ false → row_found alone context line row args ts b ≡ breaches_in (labelled_elements (among context labels) labels args)
    unfolding by_uses
    inside lacks stands fine well =
        found_at false false false lacks fine well ∙ ap (λ x. by_uses false x false false) stands
        ∙ sym (ap (λ l. breaches_in (labelled_elements (among context l) l args)) same)

    pub inside_stops : (fault : CheckFault) → use_lacks context.profile context.required row args ≡ false → alone ≡ false → has_bad_tag labels ≡ false → are_bad (row_is_filled row (known_shapes context.profile row.tags args)) row labels ts b ≡ false → IsFirst (breaches_in (labelled_elements (among context labels) labels args)) fault → IsFirst (row_found alone context line row args ts b) fault
    inside_stops fault lacks stands fine well found = subst (λ bs. IsFirst bs fault) (sym (inside lacks stands fine well)) found

    pub inside_passes : use_lacks context.profile context.required row args ≡ false → alone ≡ false → has_bad_tag labels ≡ false → are_bad (row_is_filled row (known_shapes context.profile row.tags args)) row labels ts b ≡ false → breaches_in (labelled_elements (among context labels) labels args) ≡ [] → row_found alone context line row args ts b ≡ []
    inside_passes lacks stands fine well none = inside lacks stands fine well ∙ none

pub ruleset use_steps = (found_lacking, found_alone, found_tag, found_arguments, inside_stops, inside_passes)
