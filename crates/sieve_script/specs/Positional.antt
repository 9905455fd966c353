-- Which arguments are tags' own and which are positional (RFC 5228, section 2.6). Also, whether
-- positional ones are as slots say. An argument's shape and that of the one right before it
-- decide which it is.
use Rattle.std.specs.Prelude.{◌≡◌, ℕ, zero, suc, Bool, true, false, not, ◌||◌, List, [], ◌∷◌, Option, Some, None, slice_get, if◌then◌else◌}
use lib.Pointwise.{pointwise}
use Rattle.sieve_table.specs.Table.{tag_row}
use Rattle.sieve_script.specs.Label.{fits}
use Rattle.sieve_script.specs.declared.label.Label.{Label}
use Rattle.sieve_script.specs.declared.label.Label.TheVariants.{InSlot, Unfit}
use Rattle.sieve_script.specs.declared.label.Shape.{Shape}
use Rattle.sieve_script.specs.declared.label.Shape.TheVariants as shape
use Rattle.sieve_table.specs.declared.row.Slot.{Slot}
use Rattle.sieve_table.specs.declared.tag.Tag.{Tag}

-- TAGS' OWN ARGUMENTS

-- The argument at a place is a tag's own (RFC 5228, section 2.6.2). The one right before it is a
-- tag that takes an argument, and it fits the tag's form. A tag fits no form.
pub record IsOwn (shapes : List Shape) (place : ℕ) (slot : Slot) : Type 0 where
  pub before : ℕ
  pub next : place ≡ suc before
  pub tag : Tag
  pub tagged : slice_get shapes before ≡ Some (shape.Tag (Some tag))
  pub takes : (tag_row tag).takes ≡ Some slot
  pub looks : Shape
  pub there : slice_get shapes place ≡ Some looks
  pub fit : fits slot.form looks ≡ true

-- the slot of the argument that a tag takes itself, where this is a tag that takes one
abbrev pub taken_by : Option Shape → Option Slot
taken_by None = None
taken_by (Some shape.Text) = None
taken_by (Some shape.Texts) = None
taken_by (Some shape.Number) = None
taken_by (Some (shape.Tag None)) = None
taken_by (Some (shape.Tag (Some tag))) = (tag_row tag).takes

abbrev pub fits_taken : Option Slot → Shape → Bool
fits_taken None looks = false
fits_taken (Some slot) looks = fits slot.form looks

-- POSITIONAL ARGUMENTS

abbrev pub is_tag_shape : Shape → Bool
is_tag_shape (shape.Tag taken) = true
is_tag_shape other = false

-- an argument that is no tag, and that the one right before it doesn't take
-- (RFC 5228, section 2.6.1)
abbrev pub is_positional : (before : Option Shape) → Shape → Bool
is_positional before looks = not (is_tag_shape looks || fits_taken (taken_by before) looks)

-- the argument right before a place
abbrev pub before_at : List Shape → ℕ → Option Shape
before_at shapes zero = None
before_at shapes (suc place) = slice_get shapes place

-- the positional ones of arguments, after one or at the beginning
abbrev pub positional_after : (before : Option Shape) → List Shape → List Shape
positional_after before [] = []
positional_after before (looks ∷ shapes) = if is_positional before looks then looks ∷ positional_after (Some looks) shapes else positional_after (Some looks) shapes

abbrev pub positional_of : List Shape → List Shape
positional_of shapes = positional_after None shapes

-- whether a label is that of a positional argument
abbrev pub is_positional_label : Label → Bool
is_positional_label (InSlot slot) = true
is_positional_label Unfit = true
is_positional_label other = false

-- the label of a positional argument, by the slot at its place among them, where there is one
abbrev pub at_slot : Option Slot → Shape → Label
at_slot None looks = Unfit
at_slot (Some slot) looks = if fits slot.form looks then InSlot slot else Unfit

-- whether there are as many arguments as slots, and each fits the form of its slot
abbrev pub fit_one_by_one : List Slot → List Shape → Bool
fit_one_by_one slots positional = pointwise (λ slot looks. fits slot.form looks) slots positional

-- The slots of a row for such positional arguments. The longer row, with the slot in front, counts
-- exactly where they fit it one by one.
abbrev pub meant_slots : (front : Option Slot) → List Slot → List Shape → List Slot
meant_slots None slots positional = slots
meant_slots (Some front) slots positional = if fit_one_by_one (front ∷ slots) positional then front ∷ slots else slots
