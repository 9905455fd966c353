-- The arguments that the program expects.
use Rattle.std.specs.Prelude.{List, ◌∷◌, Option, Some, None, if◌then◌else◌}
use Rattle.sieve_script.specs.Label.{Expected, fits}
use Rattle.sieve_script.specs.declared.label.Expected as expected
use Rattle.sieve_script.specs.declared.label.Shape.{Shape}
use Rattle.sieve_table.specs.declared.row.Slot.{Slot}

abbrev pub put_before : Option Slot → List Slot → List Slot
put_before None slots = slots
put_before (Some front) slots = front ∷ slots

abbrev pub expected_as : expected.Expected → Expected
expected_as e = record { awaited = e.awaited; slots = put_before e.front e.slots.now }

-- the slot of the tag before an argument of that shape, where the tag takes it
abbrev pub own_slot : Option Slot → Shape → Option Slot
own_slot None s = None
own_slot (Some own) s = if fits own.form s then Some own else None
