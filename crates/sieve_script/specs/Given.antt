-- The values that the arguments of a command or a test give, by their labels. The rules and the
-- cut of strings go by these labels too. Any arguments give a value: one that isn't given is
-- empty, or the default.
use Rattle.std.specs.Prelude.{ℕ, Bool, false, List, [], ◌∷◌, Option, Some, None, is_some, drop, if◌then◌else◌}
use Rattle.match_text.specs.Comparator.{collation_named}
use Rattle.match_text.specs.declared.comparators.Collation.{Collation}
use Rattle.match_text.specs.declared.comparators.Collation.TheVariants.{Casemap}
use Rattle.match_text.specs.Relation.{relation_named}
use Rattle.match_text.specs.declared.relation.Relation.{Relation}
use Rattle.match_text.specs.declared.relation.Relation.TheVariants.{Eq}
use Rattle.message_text.specs.declared.addressing.AddressPart.{AddressPart}
use Rattle.message_text.specs.declared.addressing.AddressPart.TheVariants as part
use Rattle.sieve_script.specs.Role.{first_role}
use Rattle.sieve_table.specs.Role.{has_role}
use Rattle.sieve_table.specs.Table.{same_kind, tag_row}
use Rattle.sieve_script.specs.CutArgument.{CutArgument, cut_strings, cut_number}
use Rattle.sieve_script.specs.declared.label.Label.{Label}
use Rattle.sieve_script.specs.declared.label.Label.TheVariants.{Tagged}
use Rattle.sieve_script.specs.declared.reading.MatchType.{MatchType}
use Rattle.sieve_script.specs.declared.reading.MatchType.TheVariants.{Is, Contains, Matches, Value, Count}
use Rattle.sieve_table.specs.declared.row.Role.{Role}
use Rattle.sieve_table.specs.declared.row.TagKind.{TagKind}
use Rattle.sieve_table.specs.declared.row.TagKind.TheVariants as kind
use Rattle.sieve_table.specs.declared.tag.Tag.{Tag}
use Rattle.sieve_table.specs.declared.tag.Tag.TheVariants as tag
use Rattle.sieve_variables.specs.Part.{Part, literal, variable_part}
use Rattle.sieve_variables.specs.Variable.{Variable, local_variable}

-- ARGUMENTS

-- the first argument in a role
abbrev pub in_role : Role → List Label → List CutArgument → Option CutArgument
in_role wanted labels [] = None
in_role wanted labels (a ∷ args) = if has_role wanted (first_role labels) then Some a else in_role wanted (drop 1 labels) args

-- the strings of an argument, each as its parts
abbrev pub texts_in : Option CutArgument → List (List Part)
texts_in (Some (cut_strings texts)) = texts
texts_in other = []

-- the strings of an argument that may be left out; none where it is left out
abbrev pub given_texts : Option CutArgument → Option (List (List Part))
given_texts None = None
given_texts (Some a) = Some (texts_in (Some a))

-- the first of some strings; no parts where there are none
abbrev pub first_text : List (List Part) → List Part
first_text [] = []
first_text (text ∷ texts) = text

-- the string of an argument, which is the first where it has several; no parts where it has none
abbrev pub text_in : Option CutArgument → List Part
text_in argument = first_text (texts_in argument)

-- the string of an argument that may be left out; none where it is left out
abbrev pub given_text : Option CutArgument → Option (List Part)
given_text None = None
given_text (Some a) = Some (text_in (Some a))

-- The variable that parts name, where they are one variable. A script sets such a variable, and no
-- match variable (RFC 5229, section 4; RFC 5232, section 3). Other parts name the variable without
-- a name, which no script has.
abbrev pub variable_in_parts : List Part → Variable
variable_in_parts (variable_part variable ∷ []) = variable
variable_in_parts other = local_variable []

-- the variable that an argument names
abbrev pub variable_in : Option CutArgument → Variable
variable_in argument = variable_in_parts (text_in argument)

-- the variable that an argument names; none where the argument is left out
abbrev pub given_variable : Option CutArgument → Option Variable
given_variable None = None
given_variable (Some a) = Some (variable_in (Some a))

-- the octets of parts that are one literal, where they are
abbrev pub literal_in_parts : List Part → Option (List ℕ)
literal_in_parts (literal octets ∷ []) = Some octets
literal_in_parts other = None

-- the octets that are there, or none
abbrev pub literal_or_nothing : Option (List ℕ) → List ℕ
literal_or_nothing None = []
literal_or_nothing (Some octets) = octets

-- the octets of an argument whose first string is one literal; none for others
abbrev pub literal_in : Option CutArgument → List ℕ
literal_in argument = literal_or_nothing (literal_in_parts (text_in argument))

-- the number of an argument; 0 where it has none
abbrev pub number_in : Option CutArgument → ℕ
number_in (Some (cut_number (Some value))) = value
number_in other = 0

-- the number of an argument that may be left out; none where it is left out
abbrev pub given_number : Option CutArgument → Option ℕ
given_number None = None
given_number (Some a) = Some (number_in (Some a))

-- The comparator, which is `i;ascii-casemap` where none is named (RFC 5228, section 2.7.3). It is
-- so too where a name isn't known, which a script without a breach doesn't have.
abbrev pub collation_or_casemap : Option Collation → Collation
collation_or_casemap None = Casemap
collation_or_casemap (Some collation) = collation

abbrev pub collation_by : Option CutArgument → Collation
collation_by argument = collation_or_casemap (collation_named (literal_in argument))

-- The relation that is named. Without `:value` and `:count` none is named, and the match type has
-- none (RFC 5231, section 4). Equality stands there then, and no match type looks at it. It also
-- stands there where a word isn't known, which a script without a breach doesn't have.
abbrev pub relation_or_eq : Option Relation → Relation
relation_or_eq None = Eq
relation_or_eq (Some relation) = relation

abbrev pub relation_by : Option CutArgument → Relation
relation_by argument = relation_or_eq (relation_named (literal_in argument))

-- TAGS

-- whether a label is that of a tag of that kind
abbrev pub is_of_kind : TagKind → Label → Bool
is_of_kind k (Tagged taken) = same_kind k (tag_row taken).kind
is_of_kind k other = false

-- the tag that a label is, where it is of that kind
abbrev pub tag_at : TagKind → Label → Option Tag
tag_at k (Tagged taken) = if same_kind k (tag_row taken).kind then Some taken else None
tag_at k other = None

-- the first where there is one, or else the other
abbrev pub first_or : {A : Type 0} → Option A → Option A → Option A
first_or None other = other
first_or (Some first) other = Some first

-- the first tag of that kind
abbrev pub tag_given : TagKind → List Label → Option Tag
tag_given k [] = None
tag_given k (label ∷ labels) = first_or (tag_at k label) (tag_given k labels)

-- the tags among arguments: of each kind the first, if there is one
abbrev pub Tags : Type 0
Tags = TagKind → Option Tag

abbrev pub tags_of : List Label → Tags
tags_of labels = λ k. tag_given k labels

-- The match type, which is `:is` where none is given (RFC 5228, section 2.7.1). `:value` and
-- `:count` go by a relation (RFC 5231, section 4).
abbrev pub match_type_by : Option Tag → Relation → MatchType
match_type_by (Some tag.Contains) relation = Contains
match_type_by (Some tag.Matches) relation = Matches
match_type_by (Some tag.Value) relation = Value relation
match_type_by (Some tag.Count) relation = Count relation
match_type_by other relation = Is

unfoldable pub match_type_of : Tags → Relation → MatchType
match_type_of tags relation = match_type_by (tags kind.MatchType) relation

-- the part of an address; all of it where none is named (RFC 5228, section 2.7.4;
-- RFC 5233, section 4)
abbrev pub address_part_by : Option Tag → AddressPart
address_part_by (Some tag.LocalPart) = part.Local
address_part_by (Some tag.Domain) = part.Domain
address_part_by (Some tag.User) = part.User
address_part_by (Some tag.Detail) = part.Detail
address_part_by other = part.All

unfoldable pub address_part_of : Tags → AddressPart
address_part_of tags = address_part_by (tags kind.AddressPart)

-- whether a tag of that kind is given
unfoldable pub has_tag : TagKind → Tags → Bool
has_tag k tags = is_some (tags k)
