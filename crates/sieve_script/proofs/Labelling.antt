-- Which arguments are labelled as tags' own and which as positional, and by which slots.
use Rattle.std.proofs.Common.{◌≡◌, ℕ, zero, suc, Bool, true, false, not, ◌&&◌, ◌||◌, ◌↔◌, List, [], ◌∷◌, drop, Option, None, Some, slice_get, refl, sym, ap, ◌∙◌}
use Rattle.std.specs.List.{filter, list_any}
use Rattle.std.specs.Option.{option_map}
use Rattle.std.specs.Prelude.{if◌then◌else◌}
use Rattle.sieve_script.specs.Label.{Expected, expected_after, fills, fits, row_is_filled, is_unfit, label_at, labels_from, labels_of, no_slots, slot_label, slots_left, slots_of, slots_with, value_label, value_slots}
use Rattle.sieve_script.specs.Positional.{IsOwn, at_slot, before_at, fit_one_by_one, fits_taken, is_positional, is_positional_label, meant_slots, positional_after, positional_of, taken_by}
use Rattle.sieve_script.specs.declared.label.Label.{Label}
use Rattle.sieve_script.specs.declared.label.Label.TheVariants.{Tagged, OtherTag, Own, InSlot, Unfit}
use Rattle.sieve_script.specs.declared.label.Shape.{Shape}
use Rattle.sieve_script.specs.declared.label.Shape.TheVariants as shape
use Rattle.sieve_table.specs.Table.{Row, tag_row}
use Rattle.sieve_table.specs.declared.row.Form.{Form}
use Rattle.sieve_table.specs.declared.row.Form.TheVariants as form
use Rattle.sieve_table.specs.declared.row.Slot.{Slot}
use Rattle.sieve_table.specs.declared.tag.Tag.{Tag}

never_both : true ≡ false → ⊥
never_both e = cc

not_both : false ≡ true → ⊥
not_both e = cc

-- ARGUMENTS THAT ARE EXPECTED AFTER ONE

abbrev after_one : Option Shape → List Slot → Expected
after_one before slots = record { awaited = taken_by before; slots = slots }

-- the slots that are left after one more argument
abbrev slots_past : Option Shape → List Slot → Shape → List Slot
slots_past before slots looks = (expected_after (after_one before slots) looks).slots

next_one : (before : Option Shape) (slots : List Slot) (looks : Shape) → expected_after (after_one before slots) looks ≡ after_one (Some looks) (slots_past before slots looks)
next_one before slots (shape.Tag None) = refl
next_one before slots (shape.Tag (Some tag)) = refl
next_one before slots shape.Text = refl
next_one before slots shape.Texts = refl
next_one before slots shape.Number = refl

next_labels : (before : Option Shape) (slots : List Slot) (looks : Shape) (shapes : List Shape) → labels_from (expected_after (after_one before slots) looks) shapes ≡ labels_from (after_one (Some looks) (slots_past before slots looks)) shapes
next_labels before slots looks shapes = ap (λ e. labels_from e shapes) (next_one before slots looks)

-- the argument right before a place, which at place 0 is a given one, or none at the beginning
abbrev before_from : Option Shape → List Shape → ℕ → Option Shape
before_from first shapes zero = first
before_from first shapes (suc place) = slice_get shapes place

before_is : (shapes : List Shape) (place : ℕ) → before_from None shapes place ≡ before_at shapes place
before_is shapes zero = refl
before_is shapes (suc place) = refl

before_next : (looks : Shape) (shapes : List Shape) (place : ℕ) → before_from (Some looks) shapes place ≡ slice_get (looks ∷ shapes) place
before_next looks shapes zero = refl
before_next looks shapes (suc place) = refl

-- LABELS OF TAGS

abbrev is_tag_label : Label → Bool
is_tag_label (Tagged tag) = true
is_tag_label OtherTag = true
is_tag_label (Own slot) = false
is_tag_label (InSlot slot) = false
is_tag_label Unfit = false

slot_is_no_tag : (slots : List Slot) (looks : Shape) → is_tag_label (slot_label slots looks) ≡ false
slot_is_no_tag [] looks = refl
slot_is_no_tag (slot ∷ slots) looks = by_fit (fits slot.form looks)
  where
    by_fit : (b : Bool) → is_tag_label (if b then InSlot slot else Unfit) ≡ false
    by_fit true = refl
    by_fit false = refl

value_is_no_tag : (own : Option Slot) (slots : List Slot) (looks : Shape) → is_tag_label (value_label own slots looks) ≡ false
value_is_no_tag None slots looks = slot_is_no_tag slots looks
value_is_no_tag (Some own) slots looks = by_fit (fits own.form looks)
  where
    by_fit : (b : Bool) → is_tag_label (if b then Own own else slot_label slots looks) ≡ false
    by_fit true = refl
    by_fit false = slot_is_no_tag slots looks

abbrev tag_label_in : Option Label → Bool
tag_label_in None = false
tag_label_in (Some label) = is_tag_label label

never_tagged : (label : Label) (tag : Tag) → is_tag_label label ≡ false → Some label ≡ Some (Tagged tag) → ⊥
never_tagged label tag other is = never_both (sym (ap tag_label_in is) ∙ other)

pub tags_labelled : (shapes : List Shape) (e : Expected) (place : ℕ) (tag : Tag) → (slice_get (labels_from e shapes) place ≡ Some (Tagged tag)) ↔ (slice_get shapes place ≡ Some (shape.Tag (Some tag)))
tags_labelled [] e place tag = ((λ h. cc), (λ h. cc))
tags_labelled (shape.Tag None ∷ shapes) e zero tag = ((λ h. cc), (λ h. cc))
tags_labelled (shape.Tag (Some taken) ∷ shapes) e zero tag = ((λ h. cc), (λ h. cc))
tags_labelled (shape.Text ∷ shapes) e zero tag = ((λ h. absurd (never_tagged _ tag (value_is_no_tag e.awaited e.slots shape.Text) h)), (λ h. cc))
tags_labelled (shape.Texts ∷ shapes) e zero tag = ((λ h. absurd (never_tagged _ tag (value_is_no_tag e.awaited e.slots shape.Texts) h)), (λ h. cc))
tags_labelled (shape.Number ∷ shapes) e zero tag = ((λ h. absurd (never_tagged _ tag (value_is_no_tag e.awaited e.slots shape.Number) h)), (λ h. cc))
tags_labelled (looks ∷ shapes) e (suc place) tag = tags_labelled shapes (expected_after e looks) place tag

-- TAGS' OWN ARGUMENTS

abbrev own_in : Option Label → Option Slot
own_in None = None
own_in (Some (Tagged tag)) = None
own_in (Some OtherTag) = None
own_in (Some (Own slot)) = Some slot
own_in (Some (InSlot slot)) = None
own_in (Some Unfit) = None

-- the slot that a tag takes, where an argument of that shape fits it
abbrev fitting : Option Slot → Shape → Option Slot
fitting None looks = None
fitting (Some slot) looks = if fits slot.form looks then Some slot else None

abbrev own_at : Option Shape → Option Shape → Option Slot
own_at before None = None
own_at before (Some looks) = fitting (taken_by before) looks

tag_fits_none : (f : Form) (tag : Option Tag) → fits f (shape.Tag tag) ≡ false
tag_fits_none form.One tag = refl
tag_fits_none form.List tag = refl
tag_fits_none form.Number tag = refl

tag_is_not_own : (own : Option Slot) (tag : Option Tag) → None ≡ fitting own (shape.Tag tag)
tag_is_not_own None tag = refl
tag_is_not_own (Some slot) tag = sym (ap (λ b. if b then Some slot else None) (tag_fits_none slot.form tag))

slot_is_not_own : (slots : List Slot) (looks : Shape) → own_in (Some (slot_label slots looks)) ≡ None
slot_is_not_own [] looks = refl
slot_is_not_own (slot ∷ slots) looks = by_fit (fits slot.form looks)
  where
    by_fit : (b : Bool) → own_in (Some (if b then InSlot slot else Unfit)) ≡ None
    by_fit true = refl
    by_fit false = refl

value_own : (own : Option Slot) (slots : List Slot) (looks : Shape) → own_in (Some (value_label own slots looks)) ≡ fitting own looks
value_own None slots looks = slot_is_not_own slots looks
value_own (Some own) slots looks = by_fit (fits own.form looks)
  where
    by_fit : (b : Bool) → own_in (Some (if b then Own own else slot_label slots looks)) ≡ (if b then Some own else None)
    by_fit true = refl
    by_fit false = slot_is_not_own slots looks

own_here : (before : Option Shape) (slots : List Slot) (looks : Shape) → own_in (Some (label_at (after_one before slots) looks)) ≡ fitting (taken_by before) looks
own_here before slots (shape.Tag None) = tag_is_not_own (taken_by before) None
own_here before slots (shape.Tag (Some tag)) = tag_is_not_own (taken_by before) (Some tag)
own_here before slots shape.Text = value_own (taken_by before) slots shape.Text
own_here before slots shape.Texts = value_own (taken_by before) slots shape.Texts
own_here before slots shape.Number = value_own (taken_by before) slots shape.Number

own_each : (shapes : List Shape) (before : Option Shape) (slots : List Slot) (place : ℕ) → own_in (slice_get (labels_from (after_one before slots) shapes) place) ≡ own_at (before_from before shapes place) (slice_get shapes place)
own_each [] before slots place = refl
own_each (looks ∷ shapes) before slots zero = own_here before slots looks
own_each (looks ∷ shapes) before slots (suc place) =
    ap (λ l. own_in (slice_get l place)) (next_labels before slots looks shapes)
    ∙ own_each shapes (Some looks) (slots_past before slots looks) place
    ∙ ap (λ b. own_at b (slice_get shapes place)) (before_next looks shapes place)

-- a label that gives the slot of a tag's own argument is the label of that argument
own_label : (label : Option Label) (slot : Slot) → own_in label ≡ Some slot → label ≡ Some (Own slot)
own_label None slot is = cc
own_label (Some (Tagged tag)) slot is = cc
own_label (Some OtherTag) slot is = cc
own_label (Some (Own own)) slot is = cc
own_label (Some (InSlot other)) slot is = cc
own_label (Some Unfit) slot is = cc

-- where a slot is found, it is the one that is taken, and the argument fits its form
fitting_is : (own : Option Slot) (looks : Shape) (slot : Slot) → fitting own looks ≡ Some slot → (own ≡ Some slot) × (fits slot.form looks ≡ true)
fitting_is None looks slot is = cc
fitting_is (Some own) looks slot is = by_fit (fits own.form looks) refl is
  where
    by_fit : (b : Bool) → fits own.form looks ≡ b → (if b then Some own else None) ≡ Some slot → (Some own ≡ Some slot) × (fits slot.form looks ≡ true)
    by_fit true fit same = (same, sym (ap (λ o. fits_taken o looks) same) ∙ fit)
    by_fit false fit same = cc

is_fitting : (own : Option Slot) (looks : Shape) (slot : Slot) → own ≡ Some slot → fits slot.form looks ≡ true → fitting own looks ≡ Some slot
is_fitting own looks slot takes fit = ap (λ o. fitting o looks) takes ∙ ap (λ b. if b then Some slot else None) fit

-- an argument that takes another is a tag whose row takes it
taken_is : (before : Option Shape) (slot : Slot) → taken_by before ≡ Some slot → (tag : Tag) × (before ≡ Some (shape.Tag (Some tag))) × ((tag_row tag).takes ≡ Some slot)
taken_is None slot is = cc
taken_is (Some shape.Text) slot is = cc
taken_is (Some shape.Texts) slot is = cc
taken_is (Some shape.Number) slot is = cc
taken_is (Some (shape.Tag None)) slot is = cc
taken_is (Some (shape.Tag (Some tag))) slot is = (tag, refl, is)

own_there : (shapes : List Shape) (place : ℕ) (slot : Slot) → own_at (before_at shapes place) (slice_get shapes place) ≡ Some slot → IsOwn shapes place slot
own_there shapes place slot is = by_place place is
  where
    fitting_none : (here : Option Shape) → own_at None here ≡ Some slot → ⊥
    fitting_none None is = cc
    fitting_none (Some looks) is = cc

    by_shape : (place : ℕ) (here : Option Shape) → slice_get shapes (suc place) ≡ here → own_at (slice_get shapes place) here ≡ Some slot → IsOwn shapes (suc place) slot
    by_shape place None there is = cc
    by_shape place (Some looks) there is =
        let so = fitting_is (taken_by (slice_get shapes place)) looks slot is in
        let t = taken_is (slice_get shapes place) slot so.0 in
        record { before = place; next = refl; tag = t.0; tagged = t.1; takes = t.2; looks = looks; there = there; fit = so.1 }

    by_place : (place : ℕ) → own_at (before_at shapes place) (slice_get shapes place) ≡ Some slot → IsOwn shapes place slot
    by_place zero is = absurd (fitting_none (slice_get shapes 0) is)
    by_place (suc place) is = by_shape place (slice_get shapes (suc place)) refl is

there_own : (shapes : List Shape) (place : ℕ) (slot : Slot) → IsOwn shapes place slot → own_at (before_at shapes place) (slice_get shapes place) ≡ Some slot
there_own shapes place slot own =
    ap (λ here. own_at (before_at shapes place) here) own.there
    ∙ is_fitting (taken_by (before_at shapes place)) own.looks slot (ap (λ p. taken_by (before_at shapes p)) own.next ∙ ap taken_by own.tagged ∙ own.takes) own.fit

module _ (row : Row) (shapes : List Shape) where
  labels_own : (place : ℕ) → own_in (slice_get (labels_of row shapes) place) ≡ own_at (before_at shapes place) (slice_get shapes place)
  labels_own place = own_each shapes None (slots_of row shapes) place ∙ ap (λ b. own_at b (slice_get shapes place)) (before_is shapes place)

  pub own_labelled : (place : ℕ) (slot : Slot) → (slice_get (labels_of row shapes) place ≡ Some (Own slot)) ↔ IsOwn shapes place slot
  own_labelled place slot = (
    (λ is. own_there shapes place slot (sym (labels_own place) ∙ ap own_in is)),
    (λ own. own_label (slice_get (labels_of row shapes) place) slot (labels_own place ∙ there_own shapes place slot own)),
  )

-- POSITIONAL ARGUMENTS

slot_is_positional : (slots : List Slot) (looks : Shape) → is_positional_label (slot_label slots looks) ≡ true
slot_is_positional [] looks = refl
slot_is_positional (slot ∷ slots) looks = by_fit (fits slot.form looks)
  where
    by_fit : (b : Bool) → is_positional_label (if b then InSlot slot else Unfit) ≡ true
    by_fit true = refl
    by_fit false = refl

value_positional : (own : Option Slot) (slots : List Slot) (looks : Shape) → is_positional_label (value_label own slots looks) ≡ not (fits_taken own looks)
value_positional None slots looks = slot_is_positional slots looks
value_positional (Some own) slots looks = by_fit (fits own.form looks)
  where
    by_fit : (b : Bool) → is_positional_label (if b then Own own else slot_label slots looks) ≡ not b
    by_fit true = refl
    by_fit false = slot_is_positional slots looks

positional_here : (before : Option Shape) (slots : List Slot) (looks : Shape) → is_positional_label (label_at (after_one before slots) looks) ≡ is_positional before looks
positional_here before slots (shape.Tag None) = refl
positional_here before slots (shape.Tag (Some tag)) = refl
positional_here before slots shape.Text = value_positional (taken_by before) slots shape.Text
positional_here before slots shape.Texts = value_positional (taken_by before) slots shape.Texts
positional_here before slots shape.Number = value_positional (taken_by before) slots shape.Number

positional_each : (shapes : List Shape) (before : Option Shape) (slots : List Slot) (place : ℕ) → option_map is_positional_label (slice_get (labels_from (after_one before slots) shapes) place) ≡ option_map (is_positional (before_from before shapes place)) (slice_get shapes place)
positional_each [] before slots place = refl
positional_each (looks ∷ shapes) before slots zero = ap (λ b. Some b) (positional_here before slots looks)
positional_each (looks ∷ shapes) before slots (suc place) =
    ap (λ l. option_map is_positional_label (slice_get l place)) (next_labels before slots looks shapes)
    ∙ positional_each shapes (Some looks) (slots_past before slots looks) place
    ∙ ap (λ b. option_map (is_positional b) (slice_get shapes place)) (before_next looks shapes place)

-- the labels of positional arguments, each by the first of the slots that are left
abbrev slot_labels : List Slot → List Shape → List Label
slot_labels slots [] = []
slot_labels slots (looks ∷ shapes) = slot_label slots looks ∷ slot_labels (drop 1 slots) shapes

module _ (looks : Shape) (shapes : List Shape) (after : List Shape) (below : (slots : List Slot) → filter is_positional_label (labels_from (record { awaited = None; slots = slots }) shapes) ≡ slot_labels slots after) where
  slot_in_turn : (slots : List Slot) → filter is_positional_label (slot_label slots looks ∷ labels_from (record { awaited = None; slots = drop 1 slots }) shapes) ≡ slot_labels slots (looks ∷ after)
  slot_in_turn slots =
      ap (λ b. if b then slot_label slots looks ∷ filter is_positional_label (labels_from (record { awaited = None; slots = drop 1 slots }) shapes) else filter is_positional_label (labels_from (record { awaited = None; slots = drop 1 slots }) shapes)) (slot_is_positional slots looks)
      ∙ ap (λ l. slot_label slots looks ∷ l) (below (drop 1 slots))

  value_in_turn : (own : Option Slot) (slots : List Slot) → filter is_positional_label (value_label own slots looks ∷ labels_from (record { awaited = None; slots = value_slots own slots looks }) shapes) ≡ slot_labels slots (if not (fits_taken own looks) then looks ∷ after else after)
  value_in_turn None slots = slot_in_turn slots
  value_in_turn (Some own) slots = by_fit (fits own.form looks)
    where
      by_fit : (b : Bool) → filter is_positional_label ((if b then Own own else slot_label slots looks) ∷ labels_from (record { awaited = None; slots = if b then slots else drop 1 slots }) shapes) ≡ slot_labels slots (if not b then looks ∷ after else after)
      by_fit true = below slots
      by_fit false = slot_in_turn slots

in_turn : (shapes : List Shape) (before : Option Shape) (slots : List Slot) → filter is_positional_label (labels_from (after_one before slots) shapes) ≡ slot_labels slots (positional_after before shapes)
in_turn [] before slots = refl
in_turn (shape.Tag None ∷ shapes) before slots = in_turn shapes (Some (shape.Tag None)) slots
in_turn (shape.Tag (Some tag) ∷ shapes) before slots = in_turn shapes (Some (shape.Tag (Some tag))) slots
in_turn (shape.Text ∷ shapes) before slots = value_in_turn shape.Text shapes (positional_after (Some shape.Text) shapes) (in_turn shapes (Some shape.Text)) (taken_by before) slots
in_turn (shape.Texts ∷ shapes) before slots = value_in_turn shape.Texts shapes (positional_after (Some shape.Texts) shapes) (in_turn shapes (Some shape.Texts)) (taken_by before) slots
in_turn (shape.Number ∷ shapes) before slots = value_in_turn shape.Number shapes (positional_after (Some shape.Number) shapes) (in_turn shapes (Some shape.Number)) (taken_by before) slots

first_slot : (slots : List Slot) (looks : Shape) → slot_label slots looks ≡ at_slot (slice_get slots 0) looks
first_slot [] looks = refl
first_slot (slot ∷ slots) looks = refl

later_slot : (slots : List Slot) (i : ℕ) → slice_get (drop 1 slots) i ≡ slice_get slots (suc i)
later_slot [] i = refl
later_slot (slot ∷ slots) i = refl

by_index : (positional : List Shape) (slots : List Slot) (i : ℕ) → slice_get (slot_labels slots positional) i ≡ option_map (at_slot (slice_get slots i)) (slice_get positional i)
by_index [] slots i = refl
by_index (looks ∷ positional) slots zero = ap (λ l. Some l) (first_slot slots looks)
by_index (looks ∷ positional) slots (suc i) = by_index positional (drop 1 slots) i ∙ ap (λ s. option_map (at_slot s) (slice_get positional i)) (later_slot slots i)

module _ (row : Row) (shapes : List Shape) where
  pub positional_labelled : (place : ℕ) → option_map is_positional_label (slice_get (labels_of row shapes) place) ≡ option_map (is_positional (before_at shapes place)) (slice_get shapes place)
  positional_labelled place = positional_each shapes None (slots_of row shapes) place ∙ ap (λ b. option_map (is_positional b) (slice_get shapes place)) (before_is shapes place)

  pub slots_in_turn : (i : ℕ) → slice_get (filter is_positional_label (labels_of row shapes)) i ≡ option_map (at_slot (slice_get (slots_of row shapes) i)) (slice_get (positional_of shapes) i)
  slots_in_turn i = ap (λ l. slice_get l i) (in_turn shapes None (slots_of row shapes)) ∙ by_index (positional_of shapes) (slots_of row shapes) i

-- AS MANY AS THE SLOTS

-- the argument before these and all of these fit, and no slot is left
abbrev are_filled : (unfit : Bool) → Expected → List Shape → Bool
are_filled unfit e shapes = not (unfit || list_any is_unfit (labels_from e shapes)) && no_slots (slots_left e shapes)

module _ (looks : Shape) (shapes : List Shape) (after : List Shape) (below : (slots : List Slot) → fills (record { awaited = None; slots = slots }) shapes ≡ fit_one_by_one slots after) where
  slot_filled : (slots : List Slot) → are_filled (is_unfit (slot_label slots looks)) (record { awaited = None; slots = drop 1 slots }) shapes ≡ fit_one_by_one slots (looks ∷ after)
  slot_filled [] = refl
  slot_filled (slot ∷ slots) = by_fit (fits slot.form looks)
    where
      by_fit : (b : Bool) → are_filled (is_unfit (if b then InSlot slot else Unfit)) (record { awaited = None; slots = slots }) shapes ≡ (b && fit_one_by_one slots after)
      by_fit true = below slots
      by_fit false = refl

  value_filled : (own : Option Slot) (slots : List Slot) → are_filled (is_unfit (value_label own slots looks)) (record { awaited = None; slots = value_slots own slots looks }) shapes ≡ fit_one_by_one slots (if not (fits_taken own looks) then looks ∷ after else after)
  value_filled None slots = slot_filled slots
  value_filled (Some own) slots = by_fit (fits own.form looks)
    where
      by_fit : (b : Bool) → are_filled (is_unfit (if b then Own own else slot_label slots looks)) (record { awaited = None; slots = if b then slots else drop 1 slots }) shapes ≡ fit_one_by_one slots (if not b then looks ∷ after else after)
      by_fit true = below slots
      by_fit false = slot_filled slots

none_left : (slots : List Slot) → no_slots slots ≡ fit_one_by_one slots []
none_left [] = refl
none_left (slot ∷ slots) = refl

filled_from : (shapes : List Shape) (before : Option Shape) (slots : List Slot) → fills (after_one before slots) shapes ≡ fit_one_by_one slots (positional_after before shapes)
filled_from [] before slots = none_left slots
filled_from (shape.Tag None ∷ shapes) before slots = filled_from shapes (Some (shape.Tag None)) slots
filled_from (shape.Tag (Some tag) ∷ shapes) before slots = filled_from shapes (Some (shape.Tag (Some tag))) slots
filled_from (shape.Text ∷ shapes) before slots = value_filled shape.Text shapes (positional_after (Some shape.Text) shapes) (filled_from shapes (Some shape.Text)) (taken_by before) slots
filled_from (shape.Texts ∷ shapes) before slots = value_filled shape.Texts shapes (positional_after (Some shape.Texts) shapes) (filled_from shapes (Some shape.Texts)) (taken_by before) slots
filled_from (shape.Number ∷ shapes) before slots = value_filled shape.Number shapes (positional_after (Some shape.Number) shapes) (filled_from shapes (Some shape.Number)) (taken_by before) slots

module _ (row : Row) (shapes : List Shape) where
  with_front : (front : Option Slot) → slots_with front row.slots shapes ≡ meant_slots front row.slots (positional_of shapes)
  with_front None = refl
  with_front (Some front) = ap (λ b. if b then front ∷ row.slots else row.slots) (filled_from shapes None (front ∷ row.slots))

  pub slots_meant : slots_of row shapes ≡ meant_slots row.front row.slots (positional_of shapes)
  slots_meant = with_front row.front

  pub filled_one_by_one : row_is_filled row shapes ≡ fit_one_by_one (slots_of row shapes) (positional_of shapes)
  filled_one_by_one = filled_from shapes None (slots_of row shapes)
