-- The fields of a message one by one.
use Rattle.std.proofs.Common.{◌≡◌, ◌≢◌, ℕ, ◌==◌, false, List, [], Some, Result, Ok, Err, IfOk, length, slice_get, sym, ap, ◌∙◌}
use Rattle.std.specs.Option.{option_map}
use Rattle.std.proofs.lemmas.Bool.{eqb-false, eqb-true}
use Rattle.std.proofs.lemmas.List.{length-map, nil_from_length}
use Rattle.std.proofs.lemmas.Option.{slice_get-map}
use Rattle.message_text.specs.Fields.{Field, Group, IsFolded, IsUnfolded, field_groups, field_of, fields_of, name_in, names_of, values_of}
use Rattle.message_text.specs.view.Spans.{AreSpans, group_at}
use Rattle.message_text.specs.declared.fields.FieldSpan.{FieldSpan}

pub spans_len : (octets : List ℕ) (spans : List FieldSpan) → AreSpans octets spans → length (fields_of octets) ≡ length spans
unfolding fields_of
spans_len octets spans all =
    length-map (field_groups octets) field_of ∙ ap length all.groups ∙ length-map spans (group_at octets)

pub span_group : (octets : List ℕ) (spans : List FieldSpan) (i : ℕ) (span : FieldSpan) → AreSpans octets spans → slice_get spans i ≡ Some span → slice_get (field_groups octets) i ≡ Some (group_at octets span)
span_group octets spans i span all is =
    ap (λ (groups : List Group). slice_get groups i) all.groups ∙ slice_get-map (group_at octets) spans i ∙ ap (option_map (group_at octets)) is

field_is : (octets : List ℕ) (i : ℕ) (group : Group) → slice_get (field_groups octets) i ≡ Some group → slice_get (fields_of octets) i ≡ Some (field_of group)
unfolding fields_of
field_is octets i group is = slice_get-map field_of (field_groups octets) i ∙ ap (option_map field_of) is

pub name_is : (octets : List ℕ) (i : ℕ) (group : Group) → slice_get (field_groups octets) i ≡ Some group → slice_get (names_of octets) i ≡ Some (name_in group.first)
name_is octets i group is =
    slice_get-map (λ (field : Field). field.name) (fields_of octets) i ∙ ap (option_map (λ (field : Field). field.name)) (field_is octets i group is)

pub value_is : (octets : List ℕ) (i : ℕ) (group : Group) → slice_get (field_groups octets) i ≡ Some group → slice_get (values_of octets) i ≡ Some (field_of group).value
value_is octets i group is =
    slice_get-map (λ (field : Field). field.value) (fields_of octets) i ∙ ap (option_map (λ (field : Field). field.value)) (field_is octets i group is)

pub one_line : (octets : List ℕ) (i : ℕ) (group : Group) → slice_get (field_groups octets) i ≡ Some group → IsUnfolded octets i → group.continuations ≡ []
one_line octets i group is unfolded =
    let none = sym (slice_get-map (λ (group : Group). length group.continuations == 0) (field_groups octets) i ∙ ap (option_map (λ (group : Group). length group.continuations == 0)) is) ∙ unfolded in
    nil_from_length group.continuations (eqb-true (length group.continuations) 0 cc)

pub more_lines : (octets : List ℕ) (i : ℕ) (group : Group) → slice_get (field_groups octets) i ≡ Some group → IsFolded octets i → group.continuations ≢ []
more_lines octets i group is folded none =
    let some = sym (slice_get-map (λ (group : Group). length group.continuations == 0) (field_groups octets) i ∙ ap (option_map (λ (group : Group). length group.continuations == 0)) is) ∙ folded in
    let not_none : (length group.continuations == 0) ≡ false = cc in
    eqb-false (length group.continuations) 0 not_none (ap length none)

-- if the octets of an answer are known, a look-up finds them
pub some_octets : {X E : Type 0} (r : Result X E) (octets_of : X → List ℕ) (octets : List ℕ) → IfOk r (λ x. octets_of x ≡ octets) → IfOk r (λ x. Some octets ≡ Some (octets_of x))
some_octets (Ok x) octets_of octets is = ap Some (sym is)
some_octets (Err e) octets_of octets is = is
