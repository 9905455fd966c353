-- The values of each test in a delivery (RFC 5228, 2.7 and 5). How many of them a test counts, and
-- whether one matches a key. The match variables that a match sets (RFC 5229, 3.2).
use Rattle.std.specs.Prelude.{ℕ, Bool, true, false, ◌||◌, List, [], ◌∷◌, Option, None, Some, is_some, map, filter, length, slice_get, nat_eq, nat_lt, if◌then◌else◌, codes, decimal, option_to_list}
use Rattle.std.specs.List.{filter_map, flat_map, list_any, list_all}
use Rattle.std.specs.Option.{option_and_then, option_map, option_or}
use Rattle.std.specs.Str.{str_eq_ignore_ascii_case}
use lib.Pointwise.{pointwise}
use Rattle.date_text.specs.Clock.{moment_of}
use Rattle.date_text.specs.Moment.{Moment}
use Rattle.date_text.specs.Reading.{date_in}
use Rattle.encoded_words.specs.Scan.{decoded_of}
use Rattle.sieve_profile.specs.Profile.{Profile}
use Rattle.flag_lists.specs.Flags.{flag_keys_of_texts, flag_list}
use Rattle.match_text.specs.Order.{are_equal, contains_under, matched_under, order_of}
use Rattle.match_text.specs.Relation.{stands_in}
use Rattle.match_text.specs.declared.comparators.Collation.{Collation}
use Rattle.message_text.specs.Addresses.{part_of_address, addresses_of, part_of_path}
use Rattle.message_text.specs.Fields.{Field, fields_of, is_field_named}
use Rattle.message_text.specs.declared.addressing.AddressPart.{AddressPart}
use Rattle.message_text.specs.declared.addressing.AddressPart.TheVariants.{All}
use Rattle.octets.specs.Octet.{is_filled}
use Rattle.sieve_script.specs.Reading.{ValueSource, field_values, envelope_values, string_values, flag_values, date_values, clock_values, body_values, Ask, compares, exists_ask, over_ask, under_ask, mailboxes_ask, duplicate_ask}
use Rattle.sieve_script.specs.declared.reading.Comparison.{Comparison}
use Rattle.sieve_script.specs.declared.reading.MatchType.{MatchType}
use Rattle.sieve_script.specs.declared.reading.MatchType.TheVariants.{Is, Contains, Matches, Value, Count}
use Rattle.sieve_table.specs.Address.{is_address_field}
use Rattle.sieve_conditions.specs.Bodies.{body_texts}
use Rattle.sieve_conditions.specs.Dates.{part_of_moment}
use Rattle.sieve_delivery.specs.Delivery.{Delivery, envelope_of, mailbox_names}
use Rattle.sieve_delivery.specs.State.{RunState}
use Rattle.sieve_delivery.specs.declared.envelope.Envelope.{Envelope}
use Rattle.sieve_variables.specs.Part.{Part}
use Rattle.sieve_variables.specs.Value.{Values, text_value, with_matched}

-- Whether a value matches a key under a comparator (RFC 5228, 2.7.1). If it does, it gives the
-- match values (RFC 5229, 3.2). Under `:matches` they are the value and the text that each wildcard
-- took. The other match types give none. Under `:value` and `:count` a value matches if it stands
-- in the relation to the key (RFC 5231, 4). The value that `:count` compares is a number.
abbrev pub match_by : MatchType → Collation → List ℕ → List ℕ → Option (List (List ℕ))
match_by Is collation value key = if are_equal collation value key then Some [] else None
match_by Contains collation value key = if contains_under collation value key then Some [] else None
match_by Matches collation value key = matched_under collation value key
match_by (Value relation) collation value key = if stands_in relation (order_of collation value key) then Some [] else None
match_by (Count relation) collation value key = if stands_in relation (order_of collation value key) then Some [] else None

-- the same, as a test compares
abbrev pub match_of : Comparison → List ℕ → List ℕ → Option (List (List ℕ))
match_of comparison value key = match_by comparison.match_type comparison.collation value key

-- a value and a key to compare
pub record Pair : Type 0 where
  pub value : List ℕ
  pub key : List ℕ

-- Whether fields of that name are looked at. For parts of addresses only the fields that hold
-- addresses are, since others have none (RFC 5228, 5.1).
abbrev pub is_looked_at : Option AddressPart → List ℕ → Bool
is_looked_at None name = true
is_looked_at (Some part) name = is_address_field name

-- the fields of that name, in order
abbrev pub fields_named : List Field → List ℕ → List Field
fields_named fields name = filter (is_field_named name) fields

-- the fields that a test looks at: for each name in turn those of that name
abbrev pub fields_looked_at : Option AddressPart → List Field → (names : List (List ℕ)) → List Field
fields_looked_at part fields names = flat_map (fields_named fields) (filter (is_looked_at part) names)

-- The values that a test finds in a field. Without a part it is the field's value, with the encoded
-- words (RFC 2047) of known charsets replaced. A `header` test sees it so (RFC 5228, 2.7.2). With a
-- part they are that part of each of the addresses in the value. An address that lacks the part
-- gives nothing (RFC 5228, 2.7.4).
abbrev pub values_in : Profile → Option AddressPart → Field → List (List ℕ)
values_in profile None field = decoded_of profile field.value ∷ []
values_in profile (Some part) field = filter_map (part_of_address part) (addresses_of field.value)

-- the first field of that name
abbrev pub first_named : List Field → List ℕ → Option Field
first_named fields name = slice_get (fields_named fields name) 0

-- The date of the first field of that name, if that field has a date (RFC 5260, 4). Encoded words
-- stay as they are written.
abbrev pub date_named : List Field → List ℕ → Option Moment
date_named fields name = option_and_then (λ field. date_in field.value) (first_named fields name)

-- a value with each key
abbrev pub pairs_with : List (List ℕ) → List ℕ → List Pair
pairs_with keys value = map (λ key. record { value = value; key = key }) keys

-- The address of an envelope's part: the sender or the recipient. Another name names nothing
-- (RFC 5228, 5.4).
abbrev pub envelope_text : Envelope → List ℕ → Option (List ℕ)
envelope_text envelope name =
    if str_eq_ignore_ascii_case (codes "from") name then Some envelope.from else
    if str_eq_ignore_ascii_case (codes "to") name then Some envelope.to else None

abbrev pub parts_of_envelope : AddressPart → Option (List ℕ) → List (List ℕ)
parts_of_envelope part None = []
parts_of_envelope part (Some text) = option_to_list (part_of_path part text)

abbrev pub envelope_named : AddressPart → Envelope → List ℕ → List (List ℕ)
envelope_named part envelope name = parts_of_envelope part (envelope_text envelope name)

-- The values of a test. They go by names, then by fields, then by addresses. Those of a body go by
-- its entities, outer before inner ones. An absent field gives nothing. A test of dates has one
-- value at most. Strings stand for their values when the test begins.
abbrev pub values_of : Delivery → RunState → ValueSource → List (List ℕ)
values_of delivery state (field_values part names) =
    flat_map (values_in delivery.arrival.profile part) (fields_looked_at part (fields_of delivery.arrival.message) (map (text_value state.values) names))
values_of delivery state (envelope_values part names) = flat_map (envelope_named part (envelope_of delivery.arrival)) (map (text_value state.values) names)
values_of delivery state (string_values texts) = map (text_value state.values) texts
values_of delivery state (flag_values None) = state.flags
values_of delivery state (flag_values (Some variables)) = flat_map flag_list (map (text_value state.values) variables)
values_of delivery state (date_values zone field part) =
    option_to_list (option_and_then (part_of_moment state.values delivery.arrival.envelope.clock zone part) (date_named (fields_of delivery.arrival.message) (text_value state.values field)))
values_of delivery state (clock_values zone part) =
    option_to_list (option_and_then (part_of_moment state.values delivery.arrival.envelope.clock zone part) (option_map moment_of delivery.arrival.envelope.clock))
values_of delivery state (body_values transform) = body_texts state.values delivery.arrival.profile delivery.arrival.message transform

-- The values that `:count` counts (RFC 5231, 4.2). These are each field of each name, each address,
-- and each address of the envelope that isn't empty. They are also each string that isn't empty
-- (RFC 5229, 5), and each flag (RFC 5232, 4). An address counts whatever part of it the test names,
-- and whether it has that part or not. A test of dates or of a body counts its values.
abbrev pub counted_of : Delivery → RunState → ValueSource → List (List ℕ)
counted_of delivery state (field_values part names) = values_of delivery state (field_values (option_map (λ one. All) part) names)
counted_of delivery state (envelope_values part names) = filter is_filled (values_of delivery state (envelope_values All names))
counted_of delivery state (string_values texts) = filter is_filled (values_of delivery state (string_values texts))
counted_of delivery state (flag_values variables) = values_of delivery state (flag_values variables)
counted_of delivery state (date_values zone field part) = values_of delivery state (date_values zone field part)
counted_of delivery state (clock_values zone part) = values_of delivery state (clock_values zone part)
counted_of delivery state (body_values transform) = values_of delivery state (body_values transform)

-- The values that a test compares with its keys. Under `:count` it is the number of the values
-- alone, in decimal (RFC 5231, 4.2).
abbrev pub compared_of : MatchType → Delivery → RunState → ValueSource → List (List ℕ)
compared_of (Count relation) delivery state source = decimal (length (counted_of delivery state source)) ∷ []
compared_of other delivery state source = values_of delivery state source

-- The keys that a test compares values with. Those of flags are cut at spaces (RFC 5232, 4).
abbrev pub keys_from : ValueSource → List (List ℕ) → List (List ℕ)
keys_from (flag_values variables) texts = flag_keys_of_texts texts
keys_from other texts = texts

abbrev pub keys_of : RunState → ValueSource → List (List Part) → List (List ℕ)
keys_of state source keys = keys_from source (map (text_value state.values) keys)

-- Each value with each key, in this order. The order is this project's choice, since RFC 5229,
-- section 3.2, leaves it open.
abbrev pub pairs_of : List (List ℕ) → List (List ℕ) → List Pair
pairs_of values keys = flat_map (pairs_with keys) values

-- whether a name is that of the INBOX, which is written in any case (RFC 3501, 5.1)
abbrev pub is_inbox : List ℕ → Bool
is_inbox name = str_eq_ignore_ascii_case (codes "INBOX") name

-- Whether a mailbox of that name is there. The INBOX is, and so is the one that mail is kept in. So
-- is each one that is listed (RFC 5490, 3.1).
abbrev pub has_mailbox : Envelope → List ℕ → Bool
has_mailbox envelope name = is_inbox name || list_any (pointwise nat_eq name) (envelope.mailbox ∷ mailbox_names envelope.mailboxes)

-- whether a field of that name is there (RFC 5228, 2.4.2.2 and 5.5)
abbrev pub has_field : List Field → List ℕ → Bool
has_field fields name = is_some (first_named fields name)

-- the answer of the first item that has one
abbrev pub first_some : {X Y : Type 0} → (X → Option Y) → List X → Option Y
first_some f [] = None
first_some f (x ∷ xs) = option_or (f x) (first_some f xs)

-- the match values of the first pair that matches (RFC 5228, 2.7.1 and 5.7; RFC 5229, 3.2)
abbrev pub first_match : Comparison → List Pair → Option (List (List ℕ))
first_match comparison pairs = first_some (λ pair. match_of comparison pair.value pair.key) pairs

-- the match values that a test finds by comparing values with keys
unfoldable pub match_found : Delivery → RunState → ValueSource → Comparison → List (List Part) → Option (List (List ℕ))
match_found delivery state source comparison keys = first_match comparison (pairs_of (compared_of comparison.match_type delivery state source) (keys_of state source keys))

-- Whether a test is true. header, address and envelope are if some pair matches (RFC 5228, 5.1, 5.4
-- and 5.7). So are string (RFC 5229, 5) and hasflag (RFC 5232, 4). So are date and currentdate
-- (RFC 5260, 4 and 5) and body (RFC 5173, 4). exists is in RFC 5228, section 5.5. size is in
-- RFC 5228, section 5.9: a message of exactly the limit's octets is neither over nor under it.
-- mailboxexists is in RFC 5490, section 3.1. duplicate (RFC 7352, 3) is false, since no message was
-- seen before.
unfoldable pub truth_of : Delivery → RunState → Ask → Bool
truth_of delivery state (compares source comparison keys) = is_some (match_found delivery state source comparison keys)
truth_of delivery state (exists_ask names) = list_all (has_field (fields_of delivery.arrival.message)) (map (text_value state.values) names)
truth_of delivery state (over_ask limit) = nat_lt limit (length delivery.arrival.message)
truth_of delivery state (under_ask limit) = nat_lt (length delivery.arrival.message) limit
truth_of delivery state (mailboxes_ask names) = list_all (has_mailbox delivery.arrival.envelope) (map (text_value state.values) names)
truth_of delivery state duplicate_ask = false

-- The variables after a test that sets match variables (RFC 5229, 3.2). Under `:matches` these are
-- the match values of the first pair that matches. They stay if none does, and under the other
-- match types.
abbrev pub with_found : MatchType → Option (List (List ℕ)) → Values → Values
with_found Matches (Some matched) values = with_matched matched values
with_found other another values = values

-- Whether the match of a test sets match variables. That of a body doesn't (RFC 5173, 6).
abbrev pub sets_matched : ValueSource → Bool
sets_matched (body_values transform) = false
sets_matched other = true

-- the variables after the match of a test
abbrev pub with_found_in : ValueSource → MatchType → Option (List (List ℕ)) → Values → Values
with_found_in source match_type found values = if sets_matched source then with_found match_type found values else values

-- the variables after a test (RFC 5229, 3.2)
unfoldable pub values_after : Delivery → RunState → Ask → Values
values_after delivery state (compares source comparison keys) = with_found_in source comparison.match_type (match_found delivery state source comparison keys) state.values
values_after delivery state other = state.values

-- the state after a test, which sets match variables at most
abbrev pub after_test : Delivery → Ask → RunState → RunState
after_test delivery ask state = record state { values = values_after delivery state ask }
