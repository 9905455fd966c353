-- The label of each argument of a command or a test (RFC 5228, section 2.6). It is a tag, a tag's
-- own argument by its slot, a positional one by its slot, or unfit. The rules, the parts of strings
-- and the readings go by these labels.
use Rattle.std.specs.Prelude.{Bool, true, false, not, ◌&&◌, List, [], ◌∷◌, Option, Some, None, drop, if◌then◌else◌}
use Rattle.std.specs.List.{list_any}
use Rattle.sieve_table.specs.Table.{Row, tag_row}
use Rattle.sieve_script.specs.declared.label.Label.{Label}
use Rattle.sieve_script.specs.declared.label.Label.TheVariants.{Tagged, OtherTag, Own, InSlot, Unfit}
use Rattle.sieve_script.specs.declared.label.Shape.{Shape}
use Rattle.sieve_script.specs.declared.label.Shape.TheVariants as shape
use Rattle.sieve_table.specs.declared.row.Form.{Form}
use Rattle.sieve_table.specs.declared.row.Form.TheVariants as form
use Rattle.sieve_table.specs.declared.row.Slot.{Slot}

-- Whether an argument of that shape can stand where that form is taken. A list may be one string
-- (RFC 5228, section 2.4.2.1).
abbrev pub fits : Form → Shape → Bool
fits form.One shape.Text = true
fits form.List shape.Text = true
fits form.List shape.Texts = true
fits form.Number shape.Number = true
fits other another = false

-- the arguments still expected: the one that the tag before takes itself, and the positional ones
pub record Expected : Type 0 where
  pub awaited : Option Slot
  pub slots : List Slot

-- the label of a positional argument, by the slots that are left
abbrev pub slot_label : List Slot → Shape → Label
slot_label [] looks = Unfit
slot_label (slot ∷ slots) looks = if fits slot.form looks then InSlot slot else Unfit

-- The label of an argument that is no tag. The tag before it takes it where it fits, and
-- else it is positional.
abbrev pub value_label : Option Slot → List Slot → Shape → Label
value_label None slots looks = slot_label slots looks
value_label (Some own) slots looks = if fits own.form looks then Own own else slot_label slots looks

abbrev pub value_slots : Option Slot → List Slot → Shape → List Slot
value_slots None slots looks = drop 1 slots
value_slots (Some own) slots looks = if fits own.form looks then slots else drop 1 slots

-- the label of an argument
abbrev pub label_at : Expected → Shape → Label
label_at expected (shape.Tag None) = OtherTag
label_at expected (shape.Tag (Some taken)) = Tagged taken
label_at expected shape.Text = value_label expected.awaited expected.slots shape.Text
label_at expected shape.Texts = value_label expected.awaited expected.slots shape.Texts
label_at expected shape.Number = value_label expected.awaited expected.slots shape.Number

-- the arguments that are expected after it
abbrev pub expected_after : Expected → Shape → Expected
expected_after expected (shape.Tag None) = record { awaited = None; slots = expected.slots }
expected_after expected (shape.Tag (Some taken)) = record { awaited = (tag_row taken).takes; slots = expected.slots }
expected_after expected shape.Text = record { awaited = None; slots = value_slots expected.awaited expected.slots shape.Text }
expected_after expected shape.Texts = record { awaited = None; slots = value_slots expected.awaited expected.slots shape.Texts }
expected_after expected shape.Number = record { awaited = None; slots = value_slots expected.awaited expected.slots shape.Number }

-- the label of each argument
abbrev pub labels_from : Expected → List Shape → List Label
labels_from expected [] = []
labels_from expected (looks ∷ shapes) = label_at expected looks ∷ labels_from (expected_after expected looks) shapes

-- the positional arguments that are still to come after them
abbrev pub slots_left : Expected → List Shape → List Slot
slots_left expected [] = expected.slots
slots_left expected (looks ∷ shapes) = slots_left (expected_after expected looks) shapes

abbrev pub is_unfit : Label → Bool
is_unfit Unfit = true
is_unfit other = false

abbrev pub no_slots : List Slot → Bool
no_slots [] = true
no_slots (slot ∷ slots) = false

abbrev pub expecting : List Slot → Expected
expecting slots = record { awaited = None; slots = slots }

-- whether the positional arguments are exactly those that are expected
abbrev pub fills : Expected → List Shape → Bool
fills expected shapes = not (list_any is_unfit (labels_from expected shapes)) && no_slots (slots_left expected shapes)

-- The slots of the positional arguments that are meant. The one in front counts where the
-- arguments then fill these slots exactly. The tags, and the arguments that they take themselves,
-- are the same either way.
abbrev pub slots_with : Option Slot → List Slot → List Shape → List Slot
slots_with None slots shapes = slots
slots_with (Some front) slots shapes = if fills (expecting (front ∷ slots)) shapes then front ∷ slots else slots

abbrev pub slots_of : Row → List Shape → List Slot
slots_of row shapes = slots_with row.front row.slots shapes

-- the labels of a row's arguments
abbrev pub labels_of : Row → List Shape → List Label
labels_of row shapes = labels_from (expecting (slots_of row shapes)) shapes

-- whether its positional arguments are there and no others
abbrev pub row_is_filled : Row → List Shape → Bool
row_is_filled row shapes = fills (expecting (slots_of row shapes)) shapes
