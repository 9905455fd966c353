-- A script without a breach has nothing that isn't known.
use Rattle.std.proofs.Common.{◌≡◌, ℕ, Bool, true, false, not, ◌||◌, List, [], ◌∷◌, map, Option, None, Some, refl, sym, ap, ◌∙◌, subst, arith}
use Rattle.std.proofs.lemmas.Bool.{or_parts}
use Rattle.std.proofs.lemmas.List.Elements.{All-cons}
use Rattle.std.specs.List.{All, list_any}
use Rattle.std.specs.Option.{option_and_then}
use Rattle.std.specs.Prelude.{if◌then◌else◌}
use Rattle.sieve_profile.specs.Profile.{Profile}
use Rattle.sieve_syntax.specs.Tree.{Argument, Block, Command, Tests}
use Rattle.sieve_check.specs.Absent.{command_lacks, comparator_lacks, is_absent_tag, lacks, row_lacks, said_lacks, test_lacks}
use Rattle.sieve_check.specs.Breach.{breaches_in, breaches_of, breaks, command_breaks, said_breaks, test_breaks}
use Rattle.sieve_check.specs.Context.{Context, under}
use Rattle.sieve_check.specs.Element.{Element, elements_of, the_command, the_number, the_test, the_text}
use Rattle.sieve_check.specs.Said.{said}
use Rattle.sieve_check.specs.Use.{has_bad_tag, has_late_tag, has_repeated, is_other_tag}
use Rattle.sieve_script.specs.Label.{Expected, expected_after, expecting, label_at, labels_from, slots_of}
use Rattle.sieve_script.specs.Shape.{known_labels, known_shape, known_shapes, shape_of, shapes_of}
use Rattle.sieve_script.specs.declared.label.Shape.{Shape}
use Rattle.sieve_script.specs.declared.label.Shape.TheVariants as shape
use Rattle.sieve_table.specs.Known.{is_known_row, is_known_tag, only_if}
use Rattle.sieve_table.specs.Table.{Row, command_named, command_row, test_named, test_row}
use Rattle.sieve_table.specs.declared.rule.Rule.{Rule}
use Rattle.sieve_table.specs.declared.rule.Rule.TheVariants.{BadTag, UnknownCapability, UnknownCommand, UnknownComparator}
use Rattle.sieve_table.specs.declared.table.CommandKind.{CommandKind}
use Rattle.sieve_table.specs.declared.tag.Tag.{Tag}
use Rattle.sieve_table.specs.declared.table.TestKind.{TestKind}
use Rattle.sieve_check.proofs.Reprofiled.{elements_again, reprofiled}
use Rattle.sieve_check.proofs.Truth.{never_both}
use Rattle.sieve_check.proofs.Unbroken.{keeps, nothing_before}

-- Where no tag is another, each tag that is taken is known. So all tags have the shapes that they
-- have where all are known.
module _ (profile : Profile) where
  kept_tag : (expected : Expected) (t : Tag) (known : Bool) → is_other_tag (label_at expected (shape.Tag (if known then Some t else None))) ≡ false → shape.Tag (if known then Some t else None) ≡ shape.Tag (Some t)
  kept_tag expected t true other = refl
  kept_tag expected t false other = absurd (never_both other)

  kept_shape : (expected : Expected) (s : Shape) → is_other_tag (label_at expected (known_shape profile s)) ≡ false → known_shape profile s ≡ s
  kept_shape expected shape.Text other = refl
  kept_shape expected shape.Texts other = refl
  kept_shape expected shape.Number other = refl
  kept_shape expected (shape.Tag None) other = refl
  kept_shape expected (shape.Tag (Some t)) other = kept_tag expected t (is_known_tag profile t) other

  all_known : (tags : List Tag) (args : List Argument) (expected : Expected) → list_any is_other_tag (labels_from expected (known_shapes profile tags args)) ≡ false → known_shapes profile tags args ≡ shapes_of tags args
  all_known tags [] expected none = refl
  all_known tags (a ∷ args) expected none =
      let s = shape_of tags a in
      let seen = known_shape profile s in
      let parts = or_parts (is_other_tag (label_at expected seen)) (list_any is_other_tag (labels_from (expected_after expected seen) (known_shapes profile tags args))) none in
      ap (λ x. x ∷ known_shapes profile tags args) (kept_shape expected s parts.0)
      ∙ ap (λ l. s ∷ l) (all_known tags args (expected_after expected seen) parts.1)

  -- a row whose tags aren't bad
  row_known : (row : Row) (args : List Argument) → has_bad_tag (known_labels profile row args) ≡ false → known_shapes profile row.tags args ≡ shapes_of row.tags args
  row_known row args fine =
      all_known row.tags args (expecting (slots_of row (known_shapes profile row.tags args)))
      (or_parts (list_any is_other_tag (known_labels profile row args)) (has_repeated (known_labels profile row args) || has_late_tag (known_labels profile row args)) fine).0

module _ (p : Profile) where
  -- TAGS

  tag_there : (expected : Expected) (t : Tag) (known : Bool) → is_known_tag p t ≡ known → is_other_tag (label_at expected (shape.Tag (if known then Some t else None))) ≡ false → is_absent_tag p (shape.Tag (if known then Some t else None)) ≡ false
  tag_there expected t true is taken = ap not is
  tag_there expected t false is taken = absurd (never_both taken)

  shape_there : (expected : Expected) (s : Shape) → is_other_tag (label_at expected (known_shape p s)) ≡ false → is_absent_tag p (known_shape p s) ≡ false
  shape_there expected shape.Text taken = refl
  shape_there expected shape.Texts taken = refl
  shape_there expected shape.Number taken = refl
  shape_there expected (shape.Tag None) taken = absurd (never_both taken)
  shape_there expected (shape.Tag (Some t)) taken = tag_there expected t (is_known_tag p t) refl taken

  -- where no argument is a tag that isn't taken
  shapes_there : (tags : List Tag) (args : List Argument) (expected : Expected) → list_any is_other_tag (labels_from expected (known_shapes p tags args)) ≡ false → list_any (is_absent_tag p) (known_shapes p tags args) ≡ false
  shapes_there tags [] expected taken = refl
  shapes_there tags (a ∷ args) expected taken =
      let seen = known_shape p (shape_of tags a) in
      let parts = or_parts (is_other_tag (label_at expected seen)) (list_any is_other_tag (labels_from (expected_after expected seen) (known_shapes p tags args))) taken in
      ap (λ b. b || list_any (is_absent_tag p) (known_shapes p tags args)) (shape_there expected (shape_of tags a) parts.0)
      ∙ shapes_there tags args (expected_after expected seen) parts.1

  row_there : (row : Row) (args : List Argument) → is_known_row p row ≡ true → has_bad_tag (known_labels p row args) ≡ false → row_lacks p row args ≡ false
  row_there row args known fine =
      ap (λ b. not b || list_any (is_absent_tag p) (shapes_of row.tags args)) known
      ∙ ap (list_any (is_absent_tag p)) (sym (row_known p row args fine))
      ∙ shapes_there row.tags args (expecting (slots_of row (known_shapes p row.tags args)))
      (or_parts (list_any is_other_tag (known_labels p row args)) (has_repeated (known_labels p row args) || has_late_tag (known_labels p row args)) fine).0

  -- COMMANDS AND TESTS

  command_there : (c : Context) (k : Option CommandKind) (args : List Argument) (ts : Tests) (ending : Block)
      → ((rule : Rule) → command_breaks (under p c) (option_and_then (only_if (λ kind. is_known_row p (command_row kind))) k) args ts ending rule ≡ false) → command_lacks p k args ≡ false
  command_there c None args ts ending unbroken = absurd (never_both (unbroken UnknownCommand))
  command_there c (Some kind) args ts ending unbroken = by_known (is_known_row p (command_row kind)) refl unbroken
    where
      by_known : (known : Bool) → is_known_row p (command_row kind) ≡ known → ((rule : Rule) → command_breaks (under p c) (if known then Some kind else None) args ts ending rule ≡ false) → row_lacks p (command_row kind) args ≡ false
      by_known true is unbroken = row_there (command_row kind) args is (unbroken BadTag)
      by_known false is unbroken = absurd (never_both (unbroken UnknownCommand))

  test_there : (c : Context) (k : Option TestKind) (args : List Argument) (ts : Tests)
      → ((rule : Rule) → test_breaks (under p c) (option_and_then (only_if (λ kind. is_known_row p (test_row kind))) k) args ts rule ≡ false) → test_lacks p k args ≡ false
  test_there c None args ts unbroken = absurd (never_both (unbroken UnknownCommand))
  test_there c (Some kind) args ts unbroken = by_known (is_known_row p (test_row kind)) refl unbroken
    where
      by_known : (known : Bool) → is_known_row p (test_row kind) ≡ known → ((rule : Rule) → test_breaks (under p c) (if known then Some kind else None) args ts rule ≡ false) → row_lacks p (test_row kind) args ≡ false
      by_known true is unbroken = row_there (test_row kind) args is (unbroken BadTag)
      by_known false is unbroken = absurd (never_both (unbroken UnknownCommand))

  -- CAPABILITIES AND COMPARATORS

  element_there : (e : Element) → ((rule : Rule) → breaks (reprofiled p e) rule ≡ false) → lacks p (reprofiled p e) ≡ false
  element_there (the_command c name line args ts ending) unbroken = command_there c (command_named name) args ts ending unbroken
  element_there (the_test c name line args ts) unbroken = test_there c (test_named name) args ts unbroken
  element_there (the_text c role text) unbroken =
      by_said (said c.required role text.string) unbroken
    where
      by_said : (o : Option (List ℕ)) → ((rule : Rule) → said_breaks (under p c) role o rule ≡ false) → said_lacks p (under p c) role o ≡ false
      by_said None unbroken = refl
      by_said (Some octets) unbroken = ap (λ b. b || comparator_lacks p role octets) (unbroken UnknownCapability) ∙ unbroken UnknownComparator
  element_there (the_number value line) unbroken = refl

  all_there : (es : List Element) → breaches_in (map (reprofiled p) es) ≡ [] → All (λ e. lacks p e ≡ false) (map (reprofiled p) es)
  all_there [] none = λ k d below. absurd (omega arith)
  all_there (e ∷ es) none =
      let parts = nothing_before (reprofiled p e) (map (reprofiled p) es) none in
      All-cons (λ e. lacks p e ≡ false) (reprofiled p e) (map (reprofiled p) es) (element_there e (keeps (reprofiled p e) parts.0)) (all_there es parts.1)

  pub nothing_absent : (tree : List Command) → breaches_of p tree ≡ [] → All (λ e. lacks p e ≡ false) (elements_of p tree)
  nothing_absent tree none =
      let same = elements_again p p refl tree in
      subst (λ es. All (λ e. lacks p e ≡ false) es) (sym same) (all_there (elements_of p tree) (ap breaches_in (sym same) ∙ none))
