-- Whether a command or a test is used as its row says (RFC 5228, sections 2.5, 2.6, 2.8 and 2.9).
use Rattle.std.specs.Prelude.{Bool, true, false, not, ◌||◌, ◌&&◌, List, [], ◌∷◌, Option, Some, None, is_some, if◌then◌else◌}
use Rattle.std.specs.List.{list_any}
use denote.Enum.Bare.{sameb}
use Rattle.sieve_syntax.specs.Tree.{Tests, no_tests, one_test, test_list, Block, no_block, block}
use Rattle.sieve_table.specs.Required.{Required, is_required}
use Rattle.sieve_script.specs.Given.{is_of_kind}
use Rattle.sieve_script.specs.Positional.{is_positional_label}
use Rattle.sieve_script.specs.Label.{labels_of, row_is_filled}
use Rattle.sieve_table.specs.Table.{Row, tag_row}
use Rattle.sieve_script.specs.declared.label.Label.{Label}
use Rattle.sieve_script.specs.declared.label.Label.TheVariants.{Tagged, OtherTag, Own, InSlot, Unfit}
use Rattle.sieve_script.specs.declared.label.Shape.{Shape}
use Rattle.sieve_table.specs.declared.capability.Capability.{Capability}
use Rattle.sieve_table.specs.contracts.row.Inner.{the_type}
use Rattle.sieve_table.specs.declared.row.Inner.{Inner}
use Rattle.sieve_table.specs.declared.row.Inner.TheVariants as inner
use Rattle.sieve_table.specs.declared.row.TagKind.{TagKind}

-- NEEDED CAPABILITIES

abbrev pub is_lacking : Required → Capability → Bool
is_lacking required capability = not (is_required required capability)

abbrev pub lacks_needed : Required → Option Capability → Bool
lacks_needed required None = false
lacks_needed required (Some capability) = is_lacking required capability

-- the capability that has to be required for an argument, by its tag or its slot
abbrev pub needed_by : Label → Option Capability
needed_by (Tagged taken) = (tag_row taken).needs
needed_by OtherTag = None
needed_by (Own slot) = slot.needs
needed_by (InSlot slot) = slot.needs
needed_by Unfit = None

-- the row or an argument needs a capability that isn't required (RFC 5228, section 2.10.5)
abbrev pub lacks_required : Required → Row → List Label → Bool
lacks_required required row labels = list_any (is_lacking required) row.needs || list_any (λ label. lacks_needed required (needed_by label)) labels

-- TAGS

-- a tag that isn't taken
abbrev pub is_other_tag : Label → Bool
is_other_tag OtherTag = true
is_other_tag other = false

abbrev pub is_tag : Label → Bool
is_tag (Tagged taken) = true
is_tag OtherTag = true
is_tag other = false

-- a tag stands after a positional argument, and so after the first of these
abbrev pub has_late_tag : List Label → Bool
has_late_tag [] = false
has_late_tag (label ∷ labels) = if is_positional_label label then list_any is_tag labels else has_late_tag labels

-- a tag of the kind of the first stands after it
abbrev pub is_repeated : Label → List Label → Bool
is_repeated (Tagged taken) labels = list_any (is_of_kind (tag_row taken).kind) labels
is_repeated other labels = false

-- two tags of one kind
abbrev pub has_repeated : List Label → Bool
has_repeated [] = false
has_repeated (label ∷ labels) = is_repeated label labels || has_repeated labels

-- a tag that isn't taken, two of one kind, or one after a positional argument
abbrev pub has_bad_tag : List Label → Bool
has_bad_tag labels = list_any is_other_tag labels || (has_repeated labels || has_late_tag labels)

-- ARGUMENTS

-- a tag that takes an argument itself
abbrev pub awaits : Label → Bool
awaits (Tagged taken) = is_some (tag_row taken).takes
awaits other = false

abbrev pub begins_own : List Label → Bool
begins_own (Own slot ∷ labels) = true
begins_own other = false

-- a tag lacks the argument that it takes itself
abbrev pub lacks_own : List Label → Bool
lacks_own [] = false
lacks_own (label ∷ labels) = (awaits label && not (begins_own labels)) || lacks_own labels

-- the row needs a tag of a kind, and none is there
abbrev pub lacks_kind : Option TagKind → List Label → Bool
lacks_kind None labels = false
lacks_kind (Some k) labels = not (list_any (is_of_kind k) labels)

-- how many tests there are: none, one, or a list
abbrev pub tests_there : Tests → Inner
tests_there no_tests = inner.None
tests_there (one_test t) = inner.One
tests_there (test_list ts) = inner.List

-- whether the tests are as the row takes them
abbrev pub tests_fit : Inner → Tests → Bool
tests_fit taken ts = sameb the_type taken (tests_there ts)

-- whether a command ends by a block
abbrev pub has_block : Block → Bool
has_block no_block = false
has_block (block ns) = true

-- whether a block stands exactly where one is taken
abbrev pub block_fits : (taken is_there : Bool) → Bool
block_fits true true = true
block_fits true false = false
block_fits false true = false
block_fits false false = true

-- The arguments, the tests or the end aren't as the row says. Or a tag lacks its own argument, or a
-- tag of a needed kind is missing.
abbrev pub are_bad : (filled : Bool) → Row → List Label → Tests → (ends_by_block : Bool) → Bool
are_bad filled row labels ts ends_by_block =
    (not filled || (not (tests_fit row.tests ts) || not (block_fits row.has_block ends_by_block))) || (lacks_own labels || lacks_kind row.one_of labels)

abbrev pub has_bad_arguments : Row → List Shape → Tests → (ends_by_block : Bool) → Bool
has_bad_arguments row shapes ts ends_by_block = are_bad (row_is_filled row shapes) row (labels_of row shapes) ts ends_by_block

-- whether the tags, the arguments, the tests and the end are as the row says
abbrev pub is_well_used : Row → List Shape → Tests → (ends_by_block : Bool) → Bool
is_well_used row shapes ts ends_by_block = not (has_bad_tag (labels_of row shapes)) && not (has_bad_arguments row shapes ts ends_by_block)
