-- The breaches of the validator's rules in a script, in the order of the text and
-- then of the rules.
use Rattle.std.specs.Prelude.{◌≡◌, ℕ, Bool, true, false, not, ◌&&◌, ◌||◌, List, [], ◌∷◌, ◌++◌, Option, Some, None, is_none, length, slice_get, nat_lt, if◌then◌else◌}
use Rattle.std.specs.List.{flat_map}
use Rattle.sieve_profile.specs.Profile.{Profile}
use Rattle.sieve_syntax.specs.Tree.{Command, Block, Tests, Argument}
use Rattle.sieve_limits.specs.Limits.{local_limit}
use Rattle.sieve_table.specs.Address.{is_address_field, is_envelope_part}
use Rattle.sieve_variables.specs.Name.{is_global_name, is_identifier}
use Rattle.sieve_variables.specs.Scan.{has_reference, has_namespace, has_foreign_namespace, has_far_index}
use Rattle.sieve_table.specs.Known.{known_command, known_test, may_be_required}
use Rattle.sieve_check.specs.Context.{Context, takes_references, is_require, continues_if}
use Rattle.sieve_check.specs.Element.{Element, the_command, the_test, the_text, the_number, elements_of}
use Rattle.match_text.specs.Relation.{relation_named}
use Rattle.date_text.specs.Part.{part_named}
use Rattle.sieve_check.specs.Collating.{arguments_lack, known_collation, lacks_substrings}
use Rattle.sieve_check.specs.Said.{said}
use Rattle.sieve_table.specs.Required.{Required, is_required}
use Rattle.sieve_table.specs.Role.{has_role, names_variable}
use Rattle.sieve_table.specs.Rule.{all_rules}
use Rattle.sieve_check.specs.Scope.{Scope, is_assigned, is_new_local}
use Rattle.sieve_script.specs.Label.{labels_of}
use Rattle.sieve_script.specs.Shape.{known_labels, known_shapes}
use Rattle.sieve_script.specs.declared.label.Shape.{Shape}
use Rattle.sieve_table.specs.Table.{Row, command_row, test_row}
use Rattle.sieve_check.specs.Use.{has_bad_tag, has_bad_arguments, has_block, lacks_required}
use Rattle.sieve_table.specs.declared.capability.Capability.TheVariants.{Include}
use Rattle.sieve_table.specs.declared.row.Role.{Role}
use Rattle.sieve_table.specs.declared.row.Role.TheVariants.{Capabilities, ComparatorName, AddressFields, EnvelopeParts, NameToSet, NamesToDeclare, Relation, DatePart}
use Rattle.sieve_table.specs.declared.rule.Rule.{Rule}
use Rattle.sieve_table.specs.declared.rule.Rule.TheVariants.{RequirePlace, UnknownCapability, UnknownCommand, NotRequired, ElsePlace, BadTag, BadArguments, UnknownComparator, BadVariableName, GlobalAfterSet, BadNamespace, MatchIndex, NumberTooLarge, BadEnvelopePart, NotAddressHeader, TooManyVariables, BadCharacter, BadRelation, UnfitComparator, BadDatePart}
use Rattle.sieve_table.specs.declared.table.CommandKind.{CommandKind}
use Rattle.sieve_table.specs.declared.table.TestKind.{TestKind}

-- a rule that is broken, and the line where
pub record Breach : Type 0 where
  pub line : ℕ
  pub rule : Rule

-- RULES THAT ARE BROKEN

-- a row, an argument or a named comparator needs a capability that isn't required
-- (RFC 5228, section 2.10.5)
abbrev pub use_lacks : Profile → Required → Row → List Argument → Bool
use_lacks profile required row args = lacks_required required row (known_labels profile row args) || arguments_lack profile required (known_labels profile row args) args

-- A use of a row, by the shapes of its arguments (RFC 5228, sections 2.5, 2.6, 2.8 and 2.9).
-- `lacking` says whether it needs a capability that isn't required (RFC 5228, section 2.10.5).
abbrev pub row_breaks : (lacking : Bool) → Row → List Shape → Tests → (ends_by_block : Bool) → Rule → Bool
row_breaks lacking row shapes ts ends_by_block NotRequired = lacking
row_breaks lacking row shapes ts ends_by_block BadTag = has_bad_tag (labels_of row shapes)
row_breaks lacking row shapes ts ends_by_block BadArguments = has_bad_arguments row shapes ts ends_by_block
row_breaks lacking row shapes ts ends_by_block rule = false

-- A command of a row. `misplaced` says whether it is a `require` in a wrong place (RFC 5228,
-- section 3.2). `alone` says whether it is an `elsif` or `else` that follows no `if` or `elsif`
-- (RFC 5228, section 3.1).
abbrev pub kind_breaks : (misplaced alone lacking : Bool) → Row → List Shape → Tests → (ends_by_block : Bool) → Rule → Bool
kind_breaks misplaced alone lacking row shapes ts ends_by_block RequirePlace = misplaced
kind_breaks misplaced alone lacking row shapes ts ends_by_block ElsePlace = alone
kind_breaks misplaced alone lacking row shapes ts ends_by_block rule = row_breaks lacking row shapes ts ends_by_block rule

-- a command or a test that doesn't exist, or that isn't known (RFC 5228, section 2.10.5)
abbrev pub unknown_breaks : Rule → Bool
unknown_breaks UnknownCommand = true
unknown_breaks rule = false

abbrev pub command_breaks : Context → Option CommandKind → List Argument → Tests → Block → Rule → Bool
command_breaks context None args ts ending rule = unknown_breaks rule
command_breaks context (Some kind) args ts ending rule =
    kind_breaks (is_require kind && not context.leads) (continues_if kind && not context.follows_if) (use_lacks context.profile context.required (command_row kind) args) (command_row kind) (known_shapes context.profile (command_row kind).tags args) ts (has_block ending) rule

abbrev pub test_breaks : Context → Option TestKind → List Argument → Tests → Rule → Bool
test_breaks context None args ts rule = unknown_breaks rule
test_breaks context (Some kind) args ts rule = row_breaks (use_lacks context.profile context.required (test_row kind) args) (test_row kind) (known_shapes context.profile (test_row kind).tags args) ts false rule

-- a string in which no reference stands for a value is known before the script runs
-- (RFC 5229, section 3)
abbrev pub is_known : Required → Option Role → List ℕ → Bool
is_known required role octets = not (takes_references required role && has_reference octets)

-- Octets that name no variable that may be set: neither one of the script nor one that scripts
-- share. So no match variable is set, and none in another namespace (RFC 5229, section 4).
-- Variables that are read are named alike (RFC 5232, section 4).
abbrev pub is_bad_name : List ℕ → Bool
is_bad_name octets = not (is_identifier octets) && not (is_global_name octets)

-- a string that is to be declared, but is no identifier (RFC 6609, section 3.4.1)
abbrev pub is_no_declaration : Option Role → List ℕ → Bool
is_no_declaration role octets = has_role NamesToDeclare role && not (is_identifier octets)

-- A reference in an unknown namespace. That of the variables that scripts share is known where
-- `include` is required (RFC 6609, section 3.4.2).
abbrev pub has_unknown_namespace : Required → List ℕ → Bool
has_unknown_namespace required octets = if is_required required Include then has_foreign_namespace octets else has_namespace octets

-- a variable in an unknown namespace: one named (RFC 5229, section 4), or one referred to
-- (RFC 5229, section 3)
abbrev pub names_namespace : Required → Option Role → List ℕ → Bool
names_namespace required role octets = (names_variable role && (is_global_name octets && not (is_required required Include))) || (takes_references required role && has_unknown_namespace required octets)

-- A string that is to name a part of a date, and names none (RFC 5260, section 4.2). The case of
-- its letters doesn't matter. Only a string that is known before the script runs breaks this rule.
abbrev pub is_bad_date_part : Required → Option Role → List ℕ → Bool
is_bad_date_part required role octets = has_role DatePart role && (is_none (part_named octets) && is_known required role octets)

-- the name of one local variable too many (RFC 5229, section 6)
abbrev pub is_past_locals : List ℕ → Scope → Bool
is_past_locals octets scope = is_new_local octets scope && not (nat_lt (length scope.assigned) local_limit)

-- The rules that a string breaks by the octets that it says. They are about a leading `require`
-- (RFC 5228, section 3.2), and comparators (RFC 5228, section 2.7.3). They are about parts of an
-- envelope (RFC 5228, section 5.4), and fields with addresses (RFC 5228, section 5.1). They are
-- about names of variables (RFC 5229, section 4; RFC 5232, sections 3 and 4; RFC 6609,
-- section 3.4.1). They are about references to variables (RFC 5229, sections 3 and 6), and
-- relations (RFC 5231, section 4). They are about comparators in a test that finds parts of values
-- (RFC 4790, section 9.1). They are about parts of a date (RFC 5260, section 4.2).
abbrev pub text_breaks : Context → Option Role → List ℕ → Rule → Bool
text_breaks context role octets UnknownCapability = has_role Capabilities role && (context.leads && not (may_be_required context.profile octets))
text_breaks context role octets UnknownComparator = has_role ComparatorName role && is_none (known_collation context.profile octets)
text_breaks context role octets BadVariableName = (names_variable role && is_bad_name octets) || is_no_declaration role octets
text_breaks context role octets GlobalAfterSet = has_role NamesToDeclare role && is_assigned octets context.scope
text_breaks context role octets BadNamespace = names_namespace context.required role octets
text_breaks context role octets MatchIndex = takes_references context.required role && has_far_index octets
text_breaks context role octets BadEnvelopePart = has_role EnvelopeParts role && (not (is_envelope_part octets) && is_known context.required role octets)
text_breaks context role octets NotAddressHeader = has_role AddressFields role && (not (is_address_field octets) && is_known context.required role octets)
text_breaks context role octets TooManyVariables = has_role NameToSet role && is_past_locals octets context.scope
text_breaks context role octets BadRelation = has_role Relation role && is_none (relation_named octets)
text_breaks context role octets UnfitComparator = has_role ComparatorName role && (context.finds_parts && lacks_substrings (known_collation context.profile octets))
text_breaks context role octets BadDatePart = is_bad_date_part context.required role octets
text_breaks context role octets rule = false

-- a string with a sequence that stands for no character (RFC 5228, section 2.4.2.4)
abbrev pub character_breaks : Rule → Bool
character_breaks BadCharacter = true
character_breaks rule = false

-- A string that says something breaks the rules that its octets break. Any other has a sequence
-- that stands for no character, and breaks no other rule (RFC 5228, section 2.4.2.4).
abbrev pub said_breaks : Context → Option Role → Option (List ℕ) → Rule → Bool
said_breaks context role None rule = character_breaks rule
said_breaks context role (Some octets) rule = text_breaks context role octets rule

-- a number past 64 bits (RFC 5228, section 2.4.1)
abbrev pub number_breaks : Option ℕ → Rule → Bool
number_breaks value NumberTooLarge = is_none value
number_breaks value rule = false

abbrev pub breaks : Element → Rule → Bool
breaks (the_command context name line args ts ending) rule = command_breaks context (known_command context.profile name) args ts ending rule
breaks (the_test context name line args ts) rule = test_breaks context (known_test context.profile name) args ts rule
breaks (the_text context role text) rule = said_breaks context role (said context.required role text.string) rule
breaks (the_number value line) rule = number_breaks value rule

-- the line of an element
abbrev pub line_of : Element → ℕ
line_of (the_command context name line args ts ending) = line
line_of (the_test context name line args ts) = line
line_of (the_text context role text) = text.line
line_of (the_number value line) = line

-- THE LIST

abbrev pub breach_if : Bool → ℕ → Rule → List Breach
breach_if broken line rule = if broken then record { line = line; rule = rule } ∷ [] else []

-- the breaches on a line of those rules that are broken, in the order of the rules
abbrev pub breaches_by : (Rule → Bool) → ℕ → List Rule → List Breach
breaches_by broken line rules = flat_map (λ rule. breach_if (broken rule) line rule) rules

-- the breaches of an element
unfoldable pub breaches_at : Element → List Breach
breaches_at element = breaches_by (breaks element) (line_of element) all_rules

-- the breaches of elements in turn
unfoldable pub breaches_in : List Element → List Breach
breaches_in elements = flat_map breaches_at elements

-- all breaches of a script, where it is judged by a profile
abbrev pub breaches_of : Profile → List Command → List Breach
breaches_of profile tree = breaches_in (elements_of profile tree)

-- the first breach: the least by its place in the text, and then by its rule's number
abbrev pub first_breach : Profile → List Command → Option Breach
first_breach profile tree = slice_get (breaches_of profile tree) 0

-- A breach of one of these elements, in the order of the text. No element before it breaks a rule,
-- and it breaks no rule before this one.
pub record IsLeast (elements : List Element) (breach : Breach) : Type 0 where
  pub before : List Element
  pub broken : Element
  pub rest : List Element
  pub split : elements ≡ before ++ broken ∷ rest
  pub none_before : breaches_in before ≡ []
  pub line : breach.line ≡ line_of broken
  pub lower : List Rule
  pub higher : List Rule
  pub rules : all_rules ≡ lower ++ breach.rule ∷ higher
  pub broken_rule : breaks broken breach.rule ≡ true
  pub none_lower : breaches_by (breaks broken) (line_of broken) lower ≡ []

-- the breach of a script that is least by its place in the text, and then by its rule's number
abbrev pub IsLeastBreach : Profile → List Command → Breach → Type 0
IsLeastBreach profile tree breach = IsLeast (elements_of profile tree) breach
