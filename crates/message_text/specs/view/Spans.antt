-- Fields by their places among the octets of their message.
use Rattle.std.specs.Prelude.{◌≡◌, ℕ, ◌≤◌, Bool, false, cond, filter, List, [], ◌∷◌, length, drop, map, slice_range}
use Rattle.std.specs.List.{All, after_first, take_while}
use Rattle.std.specs.Str.Lines.{lines}
use Rattle.sieve_limits.specs.Limits.{message_limit}
use Rattle.message_text.specs.Fields.{Group, field_groups, is_colon, is_continuation, is_field, is_unfolded, name_in}
use Rattle.message_text.specs.view.NameHash.{name_hash}
use Rattle.message_text.specs.declared.fields.FieldSpan.{FieldSpan}

-- the lines of the field
abbrev pub group_at : List ℕ → FieldSpan → Group
group_at octets span = record {
  first = slice_range octets span.start span.end;
  continuations = take_while is_continuation (lines (drop span.next octets));
}

-- the first line continues the one before
abbrev pub continues : List (List ℕ) → Bool
continues [] = false
continues (line ∷ more) = is_continuation line

-- the group that begins with the line, if it is a field; `more` is the lines after it
abbrev pub field_here : List ℕ → List (List ℕ) → List Group
field_here line more =
    cond (is_continuation line) []
    (filter is_field (record { first = line; continuations = take_while is_continuation more } ∷ []))

-- The name and the first line of the value stand where the span says. It has the number of the
-- name, and says whether more lines come.
pub record IsSpan (octets : List ℕ) (span : FieldSpan) : Type 0 where
  pub name_ordered : span.start ≤ span.name_end
  pub name_within : span.name_end ≤ length octets
  pub value_ordered : span.value_start ≤ span.end
  pub value_within : span.end ≤ length octets
  pub next_within : span.next ≤ length octets
  pub name : name_in (slice_range octets span.start span.end) ≡ slice_range octets span.start span.name_end
  pub hash : span.name_hash ≡ name_hash (slice_range octets span.start span.name_end)
  pub unfolded : span.is_unfolded ≡ is_unfolded (group_at octets span)
  pub value : after_first is_colon (slice_range octets span.start span.end) ≡ slice_range octets span.value_start span.end

-- the spans are those of all fields, in order
pub record AreSpans (octets : List ℕ) (spans : List FieldSpan) : Type 0 where
  pub groups : field_groups octets ≡ map (group_at octets) spans
  pub each : All (IsSpan octets) spans

-- a message's octets and its fields: no more octets than a message may have, and the spans of all
-- fields
pub record IsMessage (octets : List ℕ) (spans : List FieldSpan) : Type 0 where
  pub limit : length octets ≤ message_limit
  pub fields : AreSpans octets spans
