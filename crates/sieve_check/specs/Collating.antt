-- Which comparators a script may name (RFC 5228, section 2.7.3; RFC 4790, section 9.1).
use Rattle.std.specs.Prelude.{ℕ, Bool, true, false, ◌&&◌, List, [], ◌∷◌, ◌||◌, Option, Some, None, drop}
use Rattle.std.specs.List.{list_any}
use Rattle.std.specs.Option.{option_and_then}
use Rattle.match_text.specs.Comparator.{collation_named}
use Rattle.match_text.specs.declared.comparators.Collation.{Collation}
use Rattle.match_text.specs.declared.comparators.Collation.TheVariants.{Octet, Casemap, Numeric}
use Rattle.sieve_profile.specs.Profile.{Profile}
use Rattle.sieve_syntax.specs.Tree.{Argument, Text, strings, number, tag}
use Rattle.sieve_check.specs.Said.{said}
use Rattle.sieve_check.specs.Use.{is_lacking}
use Rattle.sieve_script.specs.Role.{first_role}
use Rattle.sieve_script.specs.declared.label.Label.{Label}
use Rattle.sieve_table.specs.Known.{is_known, only_if}
use Rattle.sieve_table.specs.Required.{Required}
use Rattle.sieve_table.specs.Role.{has_role}
use Rattle.sieve_table.specs.declared.capability.Capability.{Capability}
use Rattle.sieve_table.specs.declared.capability.Capability.TheVariants.{OctetComparator, CasemapComparator, NumericComparator}
use Rattle.sieve_table.specs.declared.row.Role.{Role}
use Rattle.sieve_table.specs.declared.row.Role.TheVariants.{ComparatorName}

-- the capability that a comparator needs
abbrev pub needed_for : Collation → Capability
needed_for Octet = OctetComparator
needed_for Casemap = CasemapComparator
needed_for Numeric = NumericComparator

-- the comparator of a name, where it is known
abbrev pub known_collation : Profile → List ℕ → Option Collation
known_collation profile name = option_and_then (only_if (λ collation. is_known profile (needed_for collation))) (collation_named name)

-- a comparator without substrings (RFC 4790, section 9.1)
abbrev pub lacks_substrings : Option Collation → Bool
lacks_substrings (Some Numeric) = true
lacks_substrings other = false

-- A COMPARATOR THAT HAS TO BE REQUIRED, AND ISN'T

abbrev pub collation_lacks : Required → Option Collation → Bool
collation_lacks required None = false
collation_lacks required (Some collation) = is_lacking required (needed_for collation)

-- the octets that a string says, if it says any, name such a comparator
abbrev pub name_lacks : Profile → Required → Option (List ℕ) → Bool
name_lacks profile required None = false
name_lacks profile required (Some name) = collation_lacks required (known_collation profile name)

abbrev pub text_lacks : Profile → Required → Option Role → Text → Bool
text_lacks profile required role t = name_lacks profile required (said required role t.string)

abbrev pub argument_lacks : Profile → Required → Option Role → Argument → Bool
argument_lacks profile required role (strings items bracketed) = has_role ComparatorName role && list_any (text_lacks profile required role) items
argument_lacks profile required role (number value line) = false
argument_lacks profile required role (tag name line) = false

-- some argument, each by its label, names such a comparator
abbrev pub arguments_lack : Profile → Required → List Label → List Argument → Bool
arguments_lack profile required labels [] = false
arguments_lack profile required labels (a ∷ args) = argument_lacks profile required (first_role labels) a || arguments_lack profile required (drop 1 labels) args
