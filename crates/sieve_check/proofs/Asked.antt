-- A row gives the arguments that the reading of its command or test asks for. The reading goes by
-- these and by the tags alone.
use Rattle.std.proofs.Common.{◌≡◌, true, List, None, Some, refl, ap, ◌∙◌}
use Rattle.match_text.specs.Comparator.{collation_named}
use Rattle.match_text.specs.Relation.{relation_named}
use Rattle.sieve_check.specs.Asked.{AreAlike, asked_by_command, asked_by_test, changing_flags, comparing, gives_all}
use Rattle.sieve_script.specs.CommandReading as commands
use Rattle.sieve_script.specs.Given.{address_part_of, collation_or_casemap, given_text, given_texts, has_tag, in_role, match_type_of, relation_or_eq, tags_of}
use Rattle.sieve_script.specs.Reading.{ValueSource, body_values, clock_values, compares, date_values, envelope_values, exists_ask, field_values, fileinto_leaf, flag_leaf, flag_values, include_leaf, keep_leaf, mailboxes_ask, reads_act, reads_ask, redirect_leaf, reject_leaf, set_leaf, string_values, vacation_leaf}
use Rattle.sieve_script.specs.TestReading as tests
use Rattle.sieve_script.specs.CutArgument.{CutArgument}
use Rattle.sieve_script.specs.declared.label.Label.{Label}
use Rattle.sieve_script.specs.declared.reading.FlagChange.{FlagChange}
use Rattle.sieve_script.specs.declared.reading.FlagChange.TheVariants as change
use Rattle.sieve_script.specs.declared.reading.Rejection.TheVariants as rejection
use Rattle.sieve_profile.proofs.Each.{of_each}
use Rattle.sieve_table.specs.Table.{command_row, test_row}
use Rattle.sieve_table.specs.contracts.table.CommandKind as every_command
use Rattle.sieve_table.specs.contracts.table.TestKind as every_test
use Rattle.sieve_table.specs.declared.row.Role.TheVariants as role
use Rattle.sieve_table.specs.declared.row.TagKind.TheVariants as tag_kind
use Rattle.sieve_table.specs.declared.table.CommandKind.{CommandKind}
use Rattle.sieve_table.specs.declared.table.CommandKind.TheVariants as command
use Rattle.sieve_table.specs.declared.table.TestKind.{TestKind}
use Rattle.sieve_table.specs.declared.table.TestKind.TheVariants as test

pub tests_given : (kind : TestKind) → gives_all (test_row kind) (asked_by_test kind) ≡ true
tests_given kind = of_each every_test.enum tt (λ k. gives_all (test_row k) (asked_by_test k)) refl kind

pub commands_given : (kind : CommandKind) → gives_all (command_row kind) (asked_by_command kind) ≡ true
commands_given kind = of_each every_command.enum tt (λ k. gives_all (command_row k) (asked_by_command k)) refl kind

two : {A B C : Type 0} (f : A → B → C) {a a' : A} {b b' : B} → a ≡ a' → b ≡ b' → f a b ≡ f a' b'
two f {a} {a'} {b} {b'} first second = ap (λ x. f x b) first ∙ ap (f a') second

three : {A B C D : Type 0} (f : A → B → C → D) {a a' : A} {b b' : B} {c c' : C} → a ≡ a' → b ≡ b' → c ≡ c' → f a b c ≡ f a' b' c'
three f {a} {a'} {b} {b'} {c} {c'} first second third = two (λ x y. f x y c) first second ∙ ap (f a' b') third

module _ (labels others : List Label) (args arguments : List CutArgument) (same_tags : tags_of labels ≡ tags_of others) where
  compare_alike : (source another : ValueSource) → source ≡ another → AreAlike comparing labels others args arguments → reads_ask (tests.compares_by source labels args) ≡ reads_ask (tests.compares_by another others arguments)
  compare_alike source another same alike =
      three (λ s c k. reads_ask (compares s c k)) same
      (three (λ t name relation. record { match_type = match_type_of t (relation_or_eq (relation_named relation)); collation = collation_or_casemap (collation_named name) }) same_tags alike.1.0 alike.1.1.0) alike.0

  zone_alike : given_text (in_role role.Zone labels args) ≡ given_text (in_role role.Zone others arguments) → tests.date_zone labels args ≡ tests.date_zone others arguments
  zone_alike named = two (λ zone t. tests.zone_of t zone) named same_tags

  pub tests_alike : (kind : TestKind) → AreAlike (asked_by_test kind) labels others args arguments → tests.test_reading_by kind labels args ≡ tests.test_reading_by kind others arguments
  tests_alike test.Header alike = compare_alike _ _ (ap (field_values None) alike.0) alike.1
  tests_alike test.Address alike = compare_alike _ _ (two (λ t names. field_values (Some (address_part_of t)) names) same_tags alike.0) alike.1
  tests_alike test.Envelope alike = compare_alike _ _ (two (λ t names. envelope_values (address_part_of t) names) same_tags alike.0) alike.1
  tests_alike test.Exists alike = ap (λ names. reads_ask (exists_ask names)) alike.0
  tests_alike test.Size alike = two (λ t limit. reads_ask (tests.bound_ask t limit)) same_tags alike.0
  tests_alike test.AllOf alike = refl
  tests_alike test.AnyOf alike = refl
  tests_alike test.Not alike = refl
  tests_alike test.True alike = refl
  tests_alike test.False alike = refl
  tests_alike test.String alike = compare_alike _ _ (ap string_values alike.0) alike.1
  tests_alike test.HasFlag alike = compare_alike _ _ (ap flag_values alike.0) alike.1
  tests_alike test.MailboxExists alike = ap (λ names. reads_ask (mailboxes_ask names)) alike.0
  tests_alike test.Duplicate alike = refl
  tests_alike test.Date alike = compare_alike _ _ (three date_values (zone_alike alike.1.1.0) alike.0 alike.1.0) alike.1.1.1
  tests_alike test.CurrentDate alike = compare_alike _ _ (two clock_values (zone_alike alike.1.0) alike.0) alike.1.1
  tests_alike test.Body alike = compare_alike _ _ (two (λ t named. body_values (tests.transform_of t named)) same_tags alike.0) alike.1

  settings_alike : given_texts (in_role role.Flags labels args) ≡ given_texts (in_role role.Flags others arguments) → given_text (in_role role.Text labels args) ≡ given_text (in_role role.Text others arguments)
      → commands.settings_by labels args ≡ commands.settings_by others arguments
  settings_alike flags special_use = three (λ t f u. record { flags = f; copy = has_tag tag_kind.Copy t; create = has_tag tag_kind.Create t; special_use = u }) same_tags flags special_use

  flags_alike : (how : FlagChange) → AreAlike changing_flags labels others args arguments → reads_act (commands.flags_by how labels args) ≡ reads_act (commands.flags_by how others arguments)
  flags_alike how alike = two (λ variable flags. reads_act (flag_leaf how variable flags)) alike.0 alike.1.0

  pub commands_alike : (kind : CommandKind) → AreAlike (asked_by_command kind) labels others args arguments → commands.command_reading_by kind labels args ≡ commands.command_reading_by kind others arguments
  commands_alike command.Require alike = refl
  commands_alike command.If alike = refl
  commands_alike command.Elsif alike = refl
  commands_alike command.Else alike = refl
  commands_alike command.Keep alike = ap (λ flags. reads_act (keep_leaf flags)) alike.0
  commands_alike command.Fileinto alike = two (λ mailbox s. reads_act (fileinto_leaf mailbox s)) alike.0 (settings_alike alike.1.0 alike.1.1.0)
  commands_alike command.Redirect alike = two (λ address t. reads_act (redirect_leaf address (has_tag tag_kind.Copy t))) alike.0 same_tags
  commands_alike command.Discard alike = refl
  commands_alike command.Stop alike = refl
  commands_alike command.Set alike = three (λ variable t value. reads_act (set_leaf variable (commands.modifiers_of t) value)) alike.0 same_tags alike.1.0
  commands_alike command.SetFlag alike = flags_alike change.Set alike
  commands_alike command.AddFlag alike = flags_alike change.Add alike
  commands_alike command.RemoveFlag alike = flags_alike change.Remove alike
  commands_alike command.Include alike = two (λ t name. reads_act (include_leaf (commands.location_of t) (has_tag tag_kind.Once t) (has_tag tag_kind.Optional t) name)) same_tags alike.0
  commands_alike command.Return alike = refl
  commands_alike command.Global alike = refl
  commands_alike command.Vacation alike = λ i. reads_act (vacation_leaf (record {
    reason = alike.0 i;
    days = alike.1.0 i;
    subject = alike.1.1.0 i;
    from = alike.1.1.1.0 i;
    addresses = alike.1.1.1.1.0 i;
    mime = has_tag tag_kind.Mime (same_tags i);
    handle = alike.1.1.1.1.1.0 i;
  }))
  commands_alike command.Reject alike = ap (λ reason. reads_act (reject_leaf rejection.Reject reason)) alike.0
  commands_alike command.Ereject alike = ap (λ reason. reads_act (reject_leaf rejection.Ereject reason)) alike.0

pub tests_by_asked : (kind : TestKind) (labels others : List Label) (args arguments : List CutArgument) → tags_of labels ≡ tags_of others → AreAlike (asked_by_test kind) labels others args arguments → tests.test_reading_by kind labels args ≡ tests.test_reading_by kind others arguments
tests_by_asked kind labels others args arguments same_tags alike = tests_alike labels others args arguments same_tags kind alike

pub commands_by_asked : (kind : CommandKind) (labels others : List Label) (args arguments : List CutArgument) → tags_of labels ≡ tags_of others → AreAlike (asked_by_command kind) labels others args arguments → commands.command_reading_by kind labels args ≡ commands.command_reading_by kind others arguments
commands_by_asked kind labels others args arguments same_tags alike = commands_alike labels others args arguments same_tags kind alike
