-- How tests are printed in a dump.
use Rattle.std.specs.Prelude.{ℕ, List, ◌++◌, Option, Some, None, codes, decimal}
use Rattle.match_text.specs.declared.comparators.Collation.{Collation}
use Rattle.match_text.specs.declared.comparators.Collation.TheVariants.{Octet, Casemap, Numeric}
use Rattle.match_text.specs.Relation.{relation_word}
use Rattle.message_text.specs.declared.addressing.AddressPart.{AddressPart}
use Rattle.message_text.specs.declared.addressing.AddressPart.TheVariants as address_part
use Rattle.sieve_script.specs.Reading.{BodyTransform, raw_transform, content_transform, text_transform, DateZone, local_zone, original_zone, named_zone, field_values, envelope_values, string_values, flag_values, date_values, clock_values, body_values, ValueSource, Ask, compares, exists_ask, over_ask, under_ask, mailboxes_ask, duplicate_ask}
use Rattle.sieve_script.specs.declared.reading.Comparison.{Comparison}
use Rattle.sieve_script.specs.declared.reading.MatchType.{MatchType}
use Rattle.sieve_script.specs.declared.reading.MatchType.TheVariants.{Is, Contains, Matches, Value, Count}
use Rattle.sieve_variables.specs.Part.{Part}
use Rattle.sieve_dump.specs.Strings.{further_list, further_string, list_text, string_text}

-- The word of a match type. After that of `:value` or `:count` stands the relation (RFC 5231, 4).
abbrev pub match_word : MatchType → List ℕ
match_word Is = codes "is"
match_word Contains = codes "contains"
match_word Matches = codes "matches"
match_word (Value relation) = codes "value-" ++ relation_word relation
match_word (Count relation) = codes "count-" ++ relation_word relation

abbrev pub collation_word : Collation → List ℕ
collation_word Octet = codes "octet"
collation_word Casemap = codes "casemap"
collation_word Numeric = codes "numeric"

abbrev pub address_part_word : AddressPart → List ℕ
address_part_word address_part.All = codes "all"
address_part_word address_part.Local = codes "localpart"
address_part_word address_part.Domain = codes "domain"
address_part_word address_part.User = codes "user"
address_part_word address_part.Detail = codes "detail"

-- the words of a test that compares values with keys
unfoldable pub comparing_words : List ℕ → Comparison → List ℕ
comparing_words test comparison = test ++ codes " " ++ match_word comparison.match_type ++ codes " " ++ collation_word comparison.collation

-- the words of a test that compares a part of addresses
unfoldable pub address_words : List ℕ → Comparison → AddressPart → List ℕ
address_words test comparison part = comparing_words test comparison ++ (codes " " ++ address_part_word part)

-- the variables whose flags a test looks at, or `internal` for the internal flags
unfoldable pub internal_list : Option (List (List Part)) → List ℕ
internal_list None = codes " internal"
internal_list (Some variables) = further_list variables

-- the zone in which a date is shown
unfoldable pub zone_words : DateZone → List ℕ
zone_words local_zone = codes " local"
zone_words original_zone = codes " original"
zone_words (named_zone zone) = codes " zone " ++ string_text zone

-- the words of a test that compares a part of a date, up to the zone
unfoldable pub date_words : List ℕ → Comparison → DateZone → List ℕ
date_words test comparison zone = comparing_words test comparison ++ zone_words zone

-- the part of a body that a test looks at
unfoldable pub transform_words : BodyTransform → List ℕ
transform_words raw_transform = codes " raw"
transform_words (content_transform entries) = codes " content" ++ further_list entries
transform_words text_transform = codes " text"

-- how a test compares, and the source of its values
unfoldable pub source_text : ValueSource → Comparison → List ℕ
source_text (field_values None names) comparison = comparing_words (codes "header") comparison ++ further_list names
source_text (field_values (Some part) names) comparison = address_words (codes "address") comparison part ++ further_list names
source_text (envelope_values part names) comparison = address_words (codes "envelope") comparison part ++ further_list names
source_text (string_values texts) comparison = comparing_words (codes "string") comparison ++ further_list texts
source_text (flag_values variables) comparison = comparing_words (codes "hasflag") comparison ++ internal_list variables
source_text (date_values zone field part) comparison = date_words (codes "date") comparison zone ++ (further_string field ++ further_string part)
source_text (clock_values zone part) comparison = date_words (codes "currentdate") comparison zone ++ further_string part
source_text (body_values transform) comparison = comparing_words (codes "body") comparison ++ transform_words transform

unfoldable pub ask_text : Ask → List ℕ
ask_text (compares source comparison keys) = source_text source comparison ++ further_list keys
ask_text (exists_ask names) = codes "exists " ++ list_text names
ask_text (over_ask limit) = codes "size over " ++ decimal limit
ask_text (under_ask limit) = codes "size under " ++ decimal limit
ask_text (mailboxes_ask names) = codes "mailboxexists " ++ list_text names
ask_text duplicate_ask = codes "duplicate"
