-- How a test is read, by its arguments and their labels (RFC 5228, section 5). Extensions add
-- `string` (RFC 5229, section 5), `hasflag` (RFC 5232, section 4) and `mailboxexists` (RFC 5490,
-- section 3.1). They add `duplicate` (RFC 7352, section 3) and `body` (RFC 5173, section 4). They
-- add `date` and `currentdate` (RFC 5260, sections 4 and 5).
use Rattle.std.specs.Prelude.{ℕ, List, Option, None, Some}
use Rattle.sieve_script.specs.CutArgument.{CutArgument}
use Rattle.sieve_script.specs.declared.label.Label.{Label}
use Rattle.sieve_variables.specs.Part.{Part}
use Rattle.sieve_script.specs.declared.reading.Comparison.{Comparison}
use Rattle.sieve_table.specs.declared.row.Role.TheVariants as role
use Rattle.sieve_table.specs.declared.row.TagKind.TheVariants as kind
use Rattle.sieve_table.specs.declared.tag.Tag.{Tag}
use Rattle.sieve_table.specs.declared.tag.Tag.TheVariants as tag
use Rattle.sieve_table.specs.declared.table.TestKind.{TestKind}
use Rattle.sieve_table.specs.declared.table.TestKind.TheVariants as test_kind
use Rattle.sieve_script.specs.Given.{Tags, tags_of, in_role, texts_in, text_in, given_text, given_texts, number_in, collation_by, relation_by, match_type_of, address_part_of}
use Rattle.sieve_script.specs.Reading.{BodyTransform, raw_transform, content_transform, text_transform, DateZone, local_zone, original_zone, named_zone, ValueSource, field_values, envelope_values, string_values, flag_values, date_values, clock_values, body_values, Ask, compares, exists_ask, over_ask, under_ask, mailboxes_ask, duplicate_ask, TestReading, reads_always, reads_never, reads_ask, reads_all, reads_any, reads_not}

-- how a test compares (RFC 5228, section 2.7; RFC 5231, section 4)
abbrev pub comparison_by : List Label → List CutArgument → Comparison
comparison_by labels args = record {
  match_type = match_type_of (tags_of labels) (relation_by (in_role role.Relation labels args));
  collation = collation_by (in_role role.ComparatorName labels args);
}

-- the question of a test that compares values with keys
abbrev pub compares_by : ValueSource → List Label → List CutArgument → Ask
compares_by source labels args = compares source (comparison_by labels args) (texts_in (in_role role.Keys labels args))

-- where a `header` test takes values from (RFC 5228, section 5.7)
abbrev pub header_source : List Label → List CutArgument → ValueSource
header_source labels args = field_values None (texts_in (in_role role.FieldNames labels args))

-- where an `address` test takes values from (RFC 5228, section 5.1)
abbrev pub address_source : List Label → List CutArgument → ValueSource
address_source labels args = field_values (Some (address_part_of (tags_of labels))) (texts_in (in_role role.AddressFields labels args))

-- where an `envelope` test takes values from (RFC 5228, section 5.4)
abbrev pub envelope_source : List Label → List CutArgument → ValueSource
envelope_source labels args = envelope_values (address_part_of (tags_of labels)) (texts_in (in_role role.EnvelopeParts labels args))

-- where a `string` test takes values from (RFC 5229, section 5)
abbrev pub string_source : List Label → List CutArgument → ValueSource
string_source labels args = string_values (texts_in (in_role role.Text labels args))

-- where a `hasflag` test takes values from (RFC 5232, section 4)
abbrev pub flag_source : List Label → List CutArgument → ValueSource
flag_source labels args = flag_values (given_texts (in_role role.NamesToRead labels args))

-- The zone in which a date is shown (RFC 5260, section 4.1). It is that of the date under
-- `:originalzone`, else the one that `:zone` names, and else the local one.
abbrev pub zone_by : Option Tag → (named : Option (List Part)) → DateZone
zone_by (Some tag.OriginalZone) named = original_zone
zone_by other (Some zone) = named_zone zone
zone_by other None = local_zone

unfoldable pub zone_of : Tags → (named : Option (List Part)) → DateZone
zone_of tags named = zone_by (tags kind.Zone) named

-- the zone of a test of dates
abbrev pub date_zone : List Label → List CutArgument → DateZone
date_zone labels args = zone_of (tags_of labels) (given_text (in_role role.Zone labels args))

-- where a `date` test takes values from (RFC 5260, section 4)
abbrev pub date_source : List Label → List CutArgument → ValueSource
date_source labels args = date_values (date_zone labels args) (text_in (in_role role.FieldNames labels args)) (text_in (in_role role.DatePart labels args))

-- where a `currentdate` test takes values from (RFC 5260, section 5)
abbrev pub clock_source : List Label → List CutArgument → ValueSource
clock_source labels args = clock_values (date_zone labels args) (text_in (in_role role.DatePart labels args))

-- The part of a body that a test looks at (RFC 5173, sections 4 and 5). It is all of it under
-- `:raw`, else the types that `:content` names, and else the texts. A script without a breach has
-- entries under `:content`, and nowhere else.
abbrev pub transform_by : Option Tag → (named : Option (List (List Part))) → BodyTransform
transform_by (Some tag.Raw) named = raw_transform
transform_by other (Some entries) = content_transform entries
transform_by other None = text_transform

unfoldable pub transform_of : Tags → (named : Option (List (List Part))) → BodyTransform
transform_of tags named = transform_by (tags kind.BodyTransform) named

-- where a `body` test takes values from (RFC 5173, section 4)
abbrev pub body_source : List Label → List CutArgument → ValueSource
body_source labels args = body_values (transform_of (tags_of labels) (given_texts (in_role role.ContentTypes labels args)))

-- the question of an `exists` test (RFC 5228, section 5.5)
abbrev pub exists_by : List Label → List CutArgument → Ask
exists_by labels args = exists_ask (texts_in (in_role role.FieldNames labels args))

-- The question of a `size` test (RFC 5228, section 5.9). Without a bound, which no script without a
-- breach lacks, it is as with `:over`.
abbrev pub bound_by : Option Tag → ℕ → Ask
bound_by (Some tag.Under) limit = under_ask limit
bound_by other limit = over_ask limit

unfoldable pub bound_ask : Tags → ℕ → Ask
bound_ask tags limit = bound_by (tags kind.Bound) limit

abbrev pub size_by : List Label → List CutArgument → Ask
size_by labels args = bound_ask (tags_of labels) (number_in (in_role role.Limit labels args))

-- the question of a `mailboxexists` test (RFC 5490, section 3.1)
abbrev pub mailboxes_by : List Label → List CutArgument → Ask
mailboxes_by labels args = mailboxes_ask (texts_in (in_role role.Mailbox labels args))

-- the reading of a test of a kind, by its arguments and their labels
abbrev pub test_reading_by : TestKind → List Label → List CutArgument → TestReading
test_reading_by test_kind.Header labels args = reads_ask (compares_by (header_source labels args) labels args)
test_reading_by test_kind.Address labels args = reads_ask (compares_by (address_source labels args) labels args)
test_reading_by test_kind.Envelope labels args = reads_ask (compares_by (envelope_source labels args) labels args)
test_reading_by test_kind.Exists labels args = reads_ask (exists_by labels args)
test_reading_by test_kind.Size labels args = reads_ask (size_by labels args)
test_reading_by test_kind.AllOf labels args = reads_all
test_reading_by test_kind.AnyOf labels args = reads_any
test_reading_by test_kind.Not labels args = reads_not
test_reading_by test_kind.True labels args = reads_always
test_reading_by test_kind.False labels args = reads_never
test_reading_by test_kind.String labels args = reads_ask (compares_by (string_source labels args) labels args)
test_reading_by test_kind.HasFlag labels args = reads_ask (compares_by (flag_source labels args) labels args)
test_reading_by test_kind.MailboxExists labels args = reads_ask (mailboxes_by labels args)
test_reading_by test_kind.Duplicate labels args = reads_ask duplicate_ask
test_reading_by test_kind.Date labels args = reads_ask (compares_by (date_source labels args) labels args)
test_reading_by test_kind.CurrentDate labels args = reads_ask (compares_by (clock_source labels args) labels args)
test_reading_by test_kind.Body labels args = reads_ask (compares_by (body_source labels args) labels args)
