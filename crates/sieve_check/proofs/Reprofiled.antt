-- Profiles that know the same capabilities judge a script alike, but for names
-- that may be required.
use Rattle.std.proofs.Common.{◌≡◌, ℕ, Bool, false, ◌&&◌, ◌||◌, List, [], ◌∷◌, ◌++◌, map, drop, Option, None, Some, refl, sym, ap, ◌∙◌}
use Rattle.std.proofs.lemmas.List.{map-append}
use Rattle.std.specs.List.{list_all, list_any}
use Rattle.std.specs.Prelude.{if◌then◌else◌}
use Rattle.std.specs.Option.{option_and_then}
use Rattle.sieve_profile.specs.Profile.{Profile}
use Rattle.sieve_syntax.specs.Tree.{Argument, strings, number, tag, Text, Test, test, Tests, no_tests, one_test, test_list, TestList, end_tests, more_tests, Command, command, Block, no_block, block, CommandList, end_commands, more_commands, command_list}
use Rattle.match_text.specs.Comparator.{collation_named}
use Rattle.sieve_check.specs.Breach.{use_lacks}
use Rattle.sieve_check.specs.Collating.{argument_lacks, arguments_lack, collation_lacks, known_collation, name_lacks, needed_for, text_lacks}
use Rattle.sieve_check.specs.Context.{Context, after, after_block, after_kind, past_commands, inside, naming_said, script_start, under}
use Rattle.sieve_check.specs.Element.{Element, among, argument_elements, block_elements, command_arguments, elements_of, judged_labels, labelled_elements, command_elements, command_list_elements, row_elements, test_arguments, test_elements, test_list_elements, tests_elements, text_elements, the_command, the_number, the_test, the_text}
use Rattle.sieve_check.specs.Cut.{cut_argument, cut_labelled, cut_row, cut_said}
use Rattle.sieve_check.specs.Said.{said, said_arguments}
use Rattle.sieve_check.specs.Script.{block_commands, chain_of, chain_with, command_reading, condition_of, conditions, conditions_in, script_of, test_reading}
use Rattle.sieve_script.specs.CommandReading.{command_reading_by}
use Rattle.sieve_script.specs.Script.{Chain, chain_with_command, first_condition, joined, no_conditions, one_condition}
use Rattle.sieve_script.specs.TestReading.{test_reading_by}
use Rattle.sieve_check.specs.Use.{has_block, is_well_used, lacks_required}
use Rattle.sieve_script.specs.Label.{labels_of}
use Rattle.sieve_script.specs.Role.{first_role}
use Rattle.sieve_script.specs.Shape.{known_labels, known_shape, known_shapes, shape_of}
use Rattle.sieve_script.specs.declared.label.Label.{Label}
use Rattle.sieve_script.specs.declared.label.Shape.{Shape}
use Rattle.sieve_script.specs.declared.label.Shape.TheVariants as shape
use Rattle.sieve_table.specs.Known.{is_known, is_known_tag, is_need_known, known_command, known_test, only_if}
use Rattle.sieve_table.specs.Table.{Row, command_named, command_row, tag_row, test_named, test_row}
use Rattle.sieve_table.specs.Required.{Required}
use Rattle.sieve_table.specs.Role.{has_role}
use Rattle.sieve_table.specs.declared.row.Role.{Role}
use Rattle.sieve_table.specs.declared.row.Role.TheVariants.{ComparatorName}
use Rattle.sieve_table.specs.declared.table.CommandKind.{CommandKind}
use Rattle.sieve_table.specs.declared.tag.Tag.{Tag}
use Rattle.sieve_table.specs.declared.table.TestKind.{TestKind}
use Rattle.sieve_check.proofs.Profiles.{kind_profile, command_profile}

-- an element, where the script is judged by another profile
abbrev pub reprofiled : Profile → Element → Element
reprofiled profile (the_command context name line args ts ending) = the_command (under profile context) name line args ts ending
reprofiled profile (the_test context name line args ts) = the_test (under profile context) name line args ts
reprofiled profile (the_text context role text) = the_text (under profile context) role text
reprofiled profile (the_number value line) = the_number value line

module _ (p q : Profile) (same : is_known p ≡ is_known q) where
  abbrev again : Element → Element
  again = reprofiled p

  -- KNOWN COMMANDS, TESTS AND TAGS

  pub command_again : (name : List ℕ) → known_command p name ≡ known_command q name
  command_again name = ap (λ known. option_and_then (only_if (λ kind. list_all known (command_row kind).needs)) (command_named name)) same

  pub test_again : (name : List ℕ) → known_test p name ≡ known_test q name
  test_again name = ap (λ known. option_and_then (only_if (λ kind. list_all known (test_row kind).needs)) (test_named name)) same

  tag_again : (t : Tag) → is_known_tag p t ≡ is_known_tag q t
  tag_again t = ap (λ known. is_need_known known (tag_row t).needs) same

  shape_again : (s : Shape) → known_shape p s ≡ known_shape q s
  shape_again shape.Text = refl
  shape_again shape.Texts = refl
  shape_again shape.Number = refl
  shape_again (shape.Tag None) = refl
  shape_again (shape.Tag (Some t)) = ap (λ b. shape.Tag (if b then Some t else None)) (tag_again t)

  pub shapes_again : (tags : List Tag) (args : List Argument) → known_shapes p tags args ≡ known_shapes q tags args
  shapes_again tags [] = refl
  shapes_again tags (a ∷ args) =
      ap (λ s. s ∷ known_shapes p tags args) (shape_again (shape_of tags a)) ∙ ap (λ l. known_shape q (shape_of tags a) ∷ l) (shapes_again tags args)

  pub labels_again : (row : Row) (args : List Argument) → known_labels p row args ≡ known_labels q row args
  labels_again row args = ap (labels_of row) (shapes_again row.tags args)

  -- NEEDED CAPABILITIES

  pub collation_again : (name : List ℕ) → known_collation p name ≡ known_collation q name
  collation_again name = ap (λ known. option_and_then (only_if (λ collation. known (needed_for collation))) (collation_named name)) same

  module _ (r : Required) where
    name_lacks_again : (o : Option (List ℕ)) → name_lacks p r o ≡ name_lacks q r o
    name_lacks_again None = refl
    name_lacks_again (Some name) = ap (collation_lacks r) (collation_again name)

    texts_lack_again : (role : Option Role) (ts : List Text) → list_any (text_lacks p r role) ts ≡ list_any (text_lacks q r role) ts
    texts_lack_again role [] = refl
    texts_lack_again role (t ∷ ts) = ap (λ b. b || list_any (text_lacks p r role) ts) (name_lacks_again (said r role t.string)) ∙ ap (λ b. text_lacks q r role t || b) (texts_lack_again role ts)

    argument_lacks_again : (role : Option Role) (a : Argument) → argument_lacks p r role a ≡ argument_lacks q r role a
    argument_lacks_again role (strings items bracketed) = ap (λ b. has_role ComparatorName role && b) (texts_lack_again role items)
    argument_lacks_again role (number value line) = refl
    argument_lacks_again role (tag name line) = refl

    arguments_lack_again : (labels : List Label) (args : List Argument) → arguments_lack p r labels args ≡ arguments_lack q r labels args
    arguments_lack_again labels [] = refl
    arguments_lack_again labels (a ∷ args) =
        ap (λ b. b || arguments_lack p r (drop 1 labels) args) (argument_lacks_again (first_role labels) a)
        ∙ ap (λ b. argument_lacks q r (first_role labels) a || b) (arguments_lack_again (drop 1 labels) args)

    pub use_lacks_again : (row : Row) (args : List Argument) → use_lacks p r row args ≡ use_lacks q r row args
    use_lacks_again row args =
        ap (λ labels. lacks_required r row labels || arguments_lack p r labels args) (labels_again row args)
        ∙ ap (λ b. lacks_required r row (known_labels q row args) || b) (arguments_lack_again (known_labels q row args) args)

  -- THE ELEMENTS

  module _ (c : Context) where
    texts_again : (role : Option Role) (ts : List Text) → text_elements (under p c) role ts ≡ map again (text_elements (under q c) role ts)
    texts_again role [] = refl
    texts_again role (t ∷ ts) = ap (λ l. the_text (under p c) role t ∷ l) (texts_again role ts)

    argument_again : (role : Option Role) (a : Argument) → argument_elements (under p c) role a ≡ map again (argument_elements (under q c) role a)
    argument_again role (strings items bracketed) = texts_again role items
    argument_again role (number value line) = refl
    argument_again role (tag name line) = refl

    arguments_again : (labels : List Label) (args : List Argument) → labelled_elements (under p c) labels args ≡ map again (labelled_elements (under q c) labels args)
    arguments_again labels [] = refl
    arguments_again labels (a ∷ args) =
        ap (λ l. l ++ labelled_elements (under p c) (drop 1 labels) args) (argument_again (first_role labels) a)
        ∙ ap (λ l. map again (argument_elements (under q c) (first_role labels) a) ++ l) (arguments_again (drop 1 labels) args)
        ∙ sym (map-append again (argument_elements (under q c) (first_role labels) a) (labelled_elements (under q c) (drop 1 labels) args))

  module _ (c : Context) where
    row_again : (row : Row) (args : List Argument) (ts : Tests) (ends : Bool) → row_elements (under p c) row args ts ends ≡ map again (row_elements (under q c) row args ts ends)
    row_again row args ts ends =
        ap (λ shapes. labelled_elements (among (under p c) (labels_of row shapes)) (judged_labels (is_well_used row shapes ts ends) (labels_of row shapes)) args) (shapes_again row.tags args)
        ∙ arguments_again (among c (known_labels q row args)) _ args

    test_arguments_again : (k : Option TestKind) (args : List Argument) (ts : Tests) → test_arguments (under p c) k args ts ≡ map again (test_arguments (under q c) k args ts)
    test_arguments_again None args ts = arguments_again c [] args
    test_arguments_again (Some kind) args ts = row_again (test_row kind) args ts false

    command_arguments_again : (k : Option CommandKind) (args : List Argument) (ts : Tests) (ending : Block) → command_arguments (under p c) k args ts ending ≡ map again (command_arguments (under q c) k args ts ending)
    command_arguments_again None args ts ending = arguments_again c [] args
    command_arguments_again (Some kind) args ts ending = row_again (command_row kind) args ts (has_block ending)

    mutual
      unfolding test_elements tests_elements test_list_elements

      test_elements_again : (t : Test) → test_elements (under p c) t ≡ map again (test_elements (under q c) t)
      test_elements_again (test name line args ts) =
          ap (λ k. the_test (under p c) name line args ts ∷ (test_arguments (under p c) k args ts ++ tests_elements (under p c) ts)) (test_again name)
          ∙ ap (λ l. the_test (under p c) name line args ts ∷ (l ++ tests_elements (under p c) ts)) (test_arguments_again (known_test q name) args ts)
          ∙ ap (λ l. the_test (under p c) name line args ts ∷ (map again (test_arguments (under q c) (known_test q name) args ts) ++ l)) (tests_elements_again ts)
          ∙ ap (λ l. the_test (under p c) name line args ts ∷ l) (sym (map-append again (test_arguments (under q c) (known_test q name) args ts) (tests_elements (under q c) ts)))

      tests_elements_again : (ts : Tests) → tests_elements (under p c) ts ≡ map again (tests_elements (under q c) ts)
      tests_elements_again no_tests = refl
      tests_elements_again (one_test t) = test_elements_again t
      tests_elements_again (test_list ts) = test_list_again ts

      test_list_again : (ts : TestList) → test_list_elements (under p c) ts ≡ map again (test_list_elements (under q c) ts)
      test_list_again end_tests = refl
      test_list_again (more_tests t ts) =
          ap (λ l. l ++ test_list_elements (under p c) ts) (test_elements_again t)
          ∙ ap (λ l. map again (test_elements (under q c) t) ++ l) (test_list_again ts)
          ∙ sym (map-append again (test_elements (under q c) t) (test_list_elements (under q c) ts))

  -- a context of a profile is one under it
  set : (x : Context) → x.profile ≡ q → under q x ≡ x
  set x is = ap (λ r. record x { profile = r }) (sym is)

  -- the context after a command
  kind_again : (c : Context) (k : Option CommandKind) (args : List Argument) → after_kind (under p c) k args ≡ under p (after_kind (under q c) k args)
  kind_again c None args = refl
  kind_again c (Some kind) args = ap (λ labels. record (after_kind (under p c) (Some kind) args) { scope = naming_said c.required c.scope labels args }) (labels_again (command_row kind) args)

  mutual
    unfolding after after_block past_commands

    command_after : (n : Command) (c : Context) → after (under p c) n ≡ under p (after (under q c) n)
    command_after (command name line args ts ending) c =
        ap (λ k. after_block (after_kind (under p c) k args) ending) (command_again name)
        ∙ ap (λ x. after_block x ending) (kind_again c (known_command q name) args)
        ∙ block_after ending (after_kind (under q c) (known_command q name) args)
        ∙ ap (λ x. under p (after_block x ending)) (set (after_kind (under q c) (known_command q name) args) (kind_profile (under q c) (known_command q name) args))

    -- a block goes by the profile of the command that it belongs to
    block_after : (b : Block) (c : Context) → after_block (under p c) b ≡ under p (after_block (under q c) b)
    block_after no_block c = refl
    block_after (block ns) c = ap (λ x. record (under p c) { scope = x.scope }) (commands_after ns (inside c))

    commands_after : (ns : CommandList) (c : Context) → past_commands (under p c) ns ≡ under p (past_commands (under q c) ns)
    commands_after end_commands c = refl
    commands_after (more_commands n ns) c =
        ap (λ x. past_commands x ns) (command_after n c)
        ∙ commands_after ns (after (under q c) n)
        ∙ ap (λ x. under p (past_commands x ns)) (set (after (under q c) n) (command_profile n (under q c)))

  mutual
    unfolding command_elements block_elements command_list_elements

    one_command_again : (n : Command) (c : Context) → command_elements (under p c) n ≡ map again (command_elements (under q c) n)
    one_command_again (command name line args ts ending) c =
        let k = known_command q name in
        let first = the_command (under p c) name line args ts ending in
        let within = after_kind (under q c) k args in
        ap (λ k. first ∷ (command_arguments (under p c) k args ts ending ++ (tests_elements (under p c) ts ++ block_elements (after_kind (under p c) k args) ending))) (command_again name)
        ∙ ap (λ x. first ∷ (command_arguments (under p c) k args ts ending ++ (tests_elements (under p c) ts ++ block_elements x ending))) (kind_again c k args)
        ∙ ap (λ l. first ∷ (l ++ (tests_elements (under p c) ts ++ block_elements (under p within) ending))) (command_arguments_again c k args ts ending)
        ∙ ap (λ l. first ∷ (map again (command_arguments (under q c) k args ts ending) ++ (l ++ block_elements (under p within) ending))) (tests_elements_again c ts)
        ∙ ap (λ l. first ∷ (map again (command_arguments (under q c) k args ts ending) ++ (map again (tests_elements (under q c) ts) ++ l)))
        (block_again ending within ∙ ap (λ x. map again (block_elements x ending)) (set within (kind_profile (under q c) k args)))
        ∙ ap (λ l. first ∷ (map again (command_arguments (under q c) k args ts ending) ++ l)) (sym (map-append again (tests_elements (under q c) ts) (block_elements within ending)))
        ∙ ap (λ l. first ∷ l) (sym (map-append again (command_arguments (under q c) k args ts ending) (tests_elements (under q c) ts ++ block_elements within ending)))

    block_again : (b : Block) (c : Context) → block_elements (under p c) b ≡ map again (block_elements (under q c) b)
    block_again no_block c = refl
    block_again (block ns) c = command_list_again ns (inside c)

    command_list_again : (ns : CommandList) (c : Context) → command_list_elements (under p c) ns ≡ map again (command_list_elements (under q c) ns)
    command_list_again end_commands c = refl
    command_list_again (more_commands n ns) c =
        let next = after (under q c) n in
        ap (λ x. command_elements (under p c) n ++ command_list_elements x ns) (command_after n c)
        ∙ ap (λ l. l ++ command_list_elements (under p next) ns) (one_command_again n c)
        ∙ ap (λ l. map again (command_elements (under q c) n) ++ l) (command_list_again ns next ∙ ap (λ x. map again (command_list_elements x ns)) (set next (command_profile n (under q c))))
        ∙ sym (map-append again (command_elements (under q c) n) (command_list_elements next ns))

  -- the elements of a script are the same, but for the profile
  pub elements_again : (tree : List Command) → elements_of p tree ≡ map again (elements_of q tree)
  elements_again tree = command_list_again (command_list tree) (script_start q)

  -- THE SCRIPT

  module _ (c : Context) where
    argument_cut : (role : Option Role) (a : Argument) → cut_argument (under p c) role a ≡ cut_argument (under q c) role a
    argument_cut role (strings items bracketed) = refl
    argument_cut role (number value line) = refl
    argument_cut role (tag name line) = refl

    arguments_cut : (labels : List Label) (args : List Argument) → cut_labelled (under p c) labels args ≡ cut_labelled (under q c) labels args
    arguments_cut labels [] = refl
    arguments_cut labels (a ∷ args) =
        ap (λ x. x ∷ cut_labelled (under p c) (drop 1 labels) args) (argument_cut (first_role labels) a)
        ∙ ap (λ l. cut_argument (under q c) (first_role labels) a ∷ l) (arguments_cut (drop 1 labels) args)

    pub row_cut : (row : Row) (args : List Argument) → cut_row (under p c) row args ≡ cut_row (under q c) row args
    row_cut row args =
        ap (λ labels. cut_said (under p c) labels args) (labels_again row args)
        ∙ arguments_cut (known_labels q row args) (said_arguments c.required (known_labels q row args) args)

    test_reads_again : (k : Option TestKind) (args : List Argument) → test_reading (under p c) k args ≡ test_reading (under q c) k args
    test_reads_again None args = refl
    test_reads_again (Some kind) args =
        ap (λ labels. Some (test_reading_by kind labels (cut_row (under p c) (test_row kind) args))) (labels_again (test_row kind) args)
        ∙ ap (λ cut. Some (test_reading_by kind (known_labels q (test_row kind) args) cut)) (row_cut (test_row kind) args)

    command_reads_again : (k : Option CommandKind) (args : List Argument) → command_reading (under p c) k args ≡ command_reading (under q c) k args
    command_reads_again None args = refl
    command_reads_again (Some kind) args =
        ap (λ labels. Some (command_reading_by kind labels (cut_row (under p c) (command_row kind) args))) (labels_again (command_row kind) args)
        ∙ ap (λ cut. Some (command_reading_by kind (known_labels q (command_row kind) args) cut)) (row_cut (command_row kind) args)

    mutual
      unfolding condition_of conditions_in conditions

      condition_again : (t : Test) → condition_of (under p c) t ≡ condition_of (under q c) t
      condition_again (test name line args ts) =
          ap (λ k. joined (test_reading (under p c) k args) (conditions_in (under p c) ts)) (test_again name)
          ∙ ap (λ r. joined r (conditions_in (under p c) ts)) (test_reads_again (known_test q name) args)
          ∙ ap (joined (test_reading (under q c) (known_test q name) args)) (conditions_again ts)

      conditions_again : (ts : Tests) → conditions_in (under p c) ts ≡ conditions_in (under q c) ts
      conditions_again no_tests = refl
      conditions_again (one_test t) = ap (λ x. one_condition x no_conditions) (condition_again t)
      conditions_again (test_list ts) = list_again ts

      list_again : (ts : TestList) → conditions (under p c) ts ≡ conditions (under q c) ts
      list_again end_tests = refl
      list_again (more_tests t ts) = ap (λ x. one_condition x (conditions (under p c) ts)) (condition_again t) ∙ ap (one_condition (condition_of (under q c) t)) (list_again ts)

  mutual
    unfolding chain_with block_commands chain_of

    command_chain : (n : Command) (c : Context) (chain : Chain) → chain_with (under p c) n chain ≡ chain_with (under q c) n chain
    command_chain (command name line args ts ending) c chain =
        let k = known_command q name in
        let within = after_kind (under q c) k args in
        ap (λ k. chain_with_command (command_reading (under p c) k args) line (first_condition (conditions_in (under p c) ts)) (block_commands (after_kind (under p c) k args) ending) chain) (command_again name)
        ∙ ap (λ r. chain_with_command r line (first_condition (conditions_in (under p c) ts)) (block_commands (after_kind (under p c) k args) ending) chain) (command_reads_again c k args)
        ∙ ap (λ x. chain_with_command (command_reading (under q c) k args) line (first_condition x) (block_commands (after_kind (under p c) k args) ending) chain) (conditions_again c ts)
        ∙ ap (λ x. chain_with_command (command_reading (under q c) k args) line (first_condition (conditions_in (under q c) ts)) x chain)
        (ap (λ x. block_commands x ending) (kind_again c k args) ∙ block_chain ending within ∙ ap (λ x. block_commands x ending) (set within (kind_profile (under q c) k args)))

    block_chain : (b : Block) (c : Context) → block_commands (under p c) b ≡ block_commands (under q c) b
    block_chain no_block c = refl
    block_chain (block ns) c = ap (λ x. x.rest) (commands_chain ns (inside c))

    commands_chain : (ns : CommandList) (c : Context) → chain_of (under p c) ns ≡ chain_of (under q c) ns
    commands_chain end_commands c = refl
    commands_chain (more_commands n ns) c =
        let next = after (under q c) n in
        command_chain n c (chain_of (after (under p c) n) ns)
        ∙ ap (λ x. chain_with (under q c) n (chain_of x ns)) (command_after n c)
        ∙ ap (chain_with (under q c) n) (commands_chain ns next ∙ ap (λ x. chain_of x ns) (set next (command_profile n (under q c))))

  -- the script is the same
  pub script_again : (tree : List Command) → script_of p tree ≡ script_of q tree
  script_again tree = ap (λ x. x.rest) (commands_chain (command_list tree) (script_start q))
