-- The words of the rules, as a report prints them, and their numbers.
use Rattle.std.specs.Prelude.{ℕ, ◌+◌, List, codes}
use denote.Enum.Declared.{tag_of}
use Rattle.sieve_profile.specs.Every.{every}
use Rattle.sieve_table.specs.contracts.rule.Rule.{enum, the_type}
use Rattle.sieve_table.specs.declared.rule.Rule.{Rule}
use Rattle.sieve_table.specs.declared.rule.Rule.TheVariants.{RequirePlace, UnknownCapability, UnknownCommand, NotRequired, ElsePlace, BadTag, BadArguments, UnknownComparator, BadVariableName, GlobalAfterSet, BadNamespace, MatchIndex, NumberTooLarge, BadEnvelopePart, NotAddressHeader, TooManyVariables, BadCharacter, BadRelation, UnfitComparator, BadDatePart}

abbrev pub rule_word : Rule → List ℕ
rule_word RequirePlace = codes "require-place"
rule_word UnknownCapability = codes "unknown-capability"
rule_word UnknownCommand = codes "unknown-command"
rule_word NotRequired = codes "not-required"
rule_word ElsePlace = codes "else-place"
rule_word BadTag = codes "bad-tag"
rule_word BadArguments = codes "bad-arguments"
rule_word UnknownComparator = codes "unknown-comparator"
rule_word BadVariableName = codes "bad-variable-name"
rule_word GlobalAfterSet = codes "global-after-set"
rule_word BadNamespace = codes "bad-namespace"
rule_word MatchIndex = codes "match-index"
rule_word NumberTooLarge = codes "number-too-large"
rule_word BadEnvelopePart = codes "bad-envelope-part"
rule_word NotAddressHeader = codes "not-address-header"
rule_word TooManyVariables = codes "too-many-variables"
rule_word BadCharacter = codes "bad-character"
rule_word BadRelation = codes "bad-relation"
rule_word UnfitComparator = codes "unfit-comparator"
rule_word BadDatePart = codes "bad-date-part"

-- the rules in the order of their numbers
abbrev pub all_rules : List Rule
all_rules = every enum tt

-- A rule's number, from 1 on. Of two rules that are broken at one place, the one with the lesser
-- number is reported.
abbrev pub rule_number : Rule → ℕ
rule_number rule = tag_of the_type rule + 1
