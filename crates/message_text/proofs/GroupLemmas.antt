-- Groups of lines, one line at a time.
use Rattle.octets.specs.Octet.{is_filled}
use Rattle.std.proofs.Common.{◌≡◌, ℕ, ◌+◌, ◌-◌, ◌<◌, ◌≤◌, Bool, not, true, false, cond, List, [], ◌∷◌, ◌++◌, length, take, drop, filter, map, slice_range, refl, sym, ap, ◌∙◌, arith}
use Rattle.std.specs.List.{All, take_while}
use Rattle.std.specs.Str.Lines.{lines}
use Rattle.std.proofs.lemmas.Bool.{cond-true, cond-false, lt-ltb}
use Rattle.std.proofs.lemmas.List.{append-nil, drop-drop, drop-take, length-drop, length-take-le, take-take}
use Rattle.std.proofs.lemmas.List.Sums.{take_while-cons}
use Rattle.message_text.specs.Fields.{Group, field_groups, field_of, fields_of, groups_of, is_continuation, is_field}
use Rattle.message_text.specs.view.Heads.{IsHead}
use Rattle.message_text.specs.view.NameHash.{name_hash}
use Rattle.message_text.proofs.ContinuationLemmas.{none_continues}
use Rattle.message_text.specs.view.Spans.{AreSpans, IsSpan, continues, field_here, group_at}
use Rattle.message_text.specs.declared.fields.FieldSpan.{FieldSpan}

-- a line that isn't empty is in the header section if it stands first
filled_first : (line : List ℕ) (text : List (List ℕ)) → is_filled line ≡ true → take_while is_filled (line ∷ text) ≡ line ∷ take_while is_filled text
filled_first line text filled =
    take_while-cons is_filled line text ∙ cond-true (is_filled line) (line ∷ take_while is_filled text) [] filled

-- a continuation isn't empty, so the first empty line ends the continuations too
continuations_kept : (text : List (List ℕ)) → take_while is_continuation (take_while is_filled text) ≡ take_while is_continuation text
continuations_kept [] = refl
continuations_kept ([] ∷ text) = refl
continuations_kept ((b ∷ line) ∷ text) =
    ap (take_while is_continuation) (filled_first (b ∷ line) text (lt-ltb 0 (length (b ∷ line)) (omega arith)))
    ∙ take_while-cons is_continuation (b ∷ line) (take_while is_filled text)
    ∙ ap (λ (kept : List (List ℕ)). cond (is_continuation (b ∷ line)) ((b ∷ line) ∷ kept) []) (continuations_kept text)
    ∙ sym (take_while-cons is_continuation (b ∷ line) text)

-- The groups of a header section that are fields. They are that of its first line, if this begins a
-- field, and those of the lines after it.
one_group : (line : List ℕ) (more : List (List ℕ)) → filter is_field (groups_of (line ∷ take_while is_filled more)) ≡ field_here line more ++ filter is_field (groups_of (take_while is_filled more))
one_group line more =
    let kept = take_while is_filled more in
    let others = filter is_field (groups_of kept) in
    let group : Group = record { first = line; continuations = take_while is_continuation more } in
    ap (λ (rest : List (List ℕ)). filter is_field (cond (is_continuation line) (groups_of kept) (record { first = line; continuations = rest } ∷ groups_of kept))) (continuations_kept more)
    ∙ elim (is_continuation line) as (λ continues. filter is_field (cond continues (groups_of kept) (group ∷ groups_of kept)) ≡ cond continues [] (filter is_field (group ∷ [])) ++ others) [
      | true ↦ refl
      | false ↦ elim (is_field group) as (λ is. cond is (group ∷ others) others ≡ cond is (group ∷ []) [] ++ others) [ true ↦ refl | false ↦ refl ]
    ]

pub field_groups-first : (text more line : List ℕ) → lines text ≡ line ∷ lines more → is_filled line ≡ true → field_groups text ≡ field_here line (lines more) ++ field_groups more
unfolding field_groups
field_groups-first text more line is filled =
    ap (λ header. filter is_field (groups_of header)) (ap (take_while is_filled) is ∙ filled_first line (lines more) filled)
    ∙ one_group line (lines more)

pub field_groups-end : (text line : List ℕ) (more : List (List ℕ)) → lines text ≡ line ∷ more → is_filled line ≡ false → field_groups text ≡ []
unfolding field_groups
field_groups-end text line more is empty =
    ap (λ header. filter is_field (groups_of header))
    (ap (take_while is_filled) is ∙ take_while-cons is_filled line more ∙ cond-false (is_filled line) (line ∷ take_while is_filled more) [] empty)

pub field_groups-nil : field_groups [] ≡ []
unfolding field_groups
field_groups-nil = refl

-- the span of a field, by the name and the colon of its first line
pub span_at : (octets : List ℕ) (start end next name_len colon hash : ℕ) (unfolded : Bool) → hash ≡ name_hash (slice_range octets start (start + name_len)) → unfolded ≡ not (continues (lines (drop next octets))) → start ≤ end → end ≤ length octets → next ≤ length octets → IsHead (slice_range octets start end) name_len colon → IsSpan octets (record { start = start; name_end = start + name_len; value_start = start + colon + 1; end = end; next = next; is_unfolded = unfolded; name_hash = hash })
span_at octets start end next name_len colon hash unfolded hashed more ordered within next_within head =
    let rest = drop start octets in
    let line = slice_range octets start end in
    let len : length line ≡ end - start = length-take-le (end - start) rest (omega (arith, length-drop start octets)) in
    let colon_within = head.within in
    let name_ordered = head.ordered in
    let past : end - start ≡ (colon + 1) + (end - (start + colon + 1)) = omega arith in
    record {
      name_ordered = omega arith;
      name_within = omega arith;
      value_ordered = omega arith;
      value_within = within;
      next_within = next_within;
      hash = hashed;
      unfolded = more ∙ sym (none_continues (lines (drop next octets)));
      name = head.name ∙ take-take name_len (end - start) rest (omega arith) ∙ ap (λ n. take n rest) (omega arith);
      value = ap (λ k. drop (k + 1) line) head.at_colon
          ∙ ap (λ n. drop (colon + 1) (take n rest)) past
          ∙ drop-take (colon + 1) (end - (start + colon + 1)) rest
          ∙ ap (take (end - (start + colon + 1))) (drop-drop (colon + 1) start octets ∙ ap (λ n. drop n octets) (omega arith));
    }

pub slice-filled : (octets : List ℕ) (start end : ℕ) → start < end → end ≤ length octets → is_filled (slice_range octets start end) ≡ true
slice-filled octets start end some within =
    let rest = drop start octets in
    let len : length (slice_range octets start end) ≡ end - start = length-take-le (end - start) rest (omega (arith, length-drop start octets)) in
    lt-ltb 0 (length (slice_range octets start end)) (omega arith)

pub slice-empty : (octets : List ℕ) (start : ℕ) → is_filled (slice_range octets start start) ≡ false
slice-empty octets start =
    let none : start - start ≡ 0 = omega arith in
    ap (λ n. is_filled (take n (drop start octets))) none

-- the spans found so far are those of a message, if the rest of it has no field
pub are_spans : (octets : List ℕ) (spans : List FieldSpan) (start : ℕ) → map (group_at octets) spans ++ field_groups (drop start octets) ≡ field_groups octets → field_groups (drop start octets) ≡ [] → All (IsSpan octets) spans → AreSpans octets spans
are_spans octets spans start found none each =
    let so_far = map (group_at octets) spans in
    record { groups = sym found ∙ ap (λ (rest : List Group). so_far ++ rest) none ∙ append-nil so_far; each = each }

-- if two joined lists of groups are empty, each of the two is empty
pub none_first : (first others : List Group) → first ++ others ≡ [] → first ≡ []
none_first [] others none = refl
none_first (group ∷ first) others none = cc

pub none_after : (first others : List Group) → first ++ others ≡ [] → others ≡ []
none_after [] others none = none
none_after (group ∷ first) others none = cc

-- if a list of groups has no fields, it has no groups
no_group : (groups : List Group) → map field_of groups ≡ [] → groups ≡ []
no_group [] none = refl
no_group (group ∷ groups) none = cc

-- a message without fields has no groups that are fields
pub no_groups : (message : List ℕ) → fields_of message ≡ [] → field_groups message ≡ []
unfolding fields_of
no_groups message none = no_group (field_groups message) none
