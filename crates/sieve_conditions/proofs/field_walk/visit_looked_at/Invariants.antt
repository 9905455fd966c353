use Rattle.std.proofs.Common.{◌≡◌, drop, map}
use Rattle.std.specs.List.{fold}
use Rattle.message_text.specs.Fields.{fields_of}
use Rattle.sieve_conditions.specs.Matching.{fields_looked_at}
use Rattle.sieve_delivery.specs.view.State.{state_of}
use Rattle.sieve_variables.specs.Value.{text_value}
use Rattle.sieve_conditions.proofs.field_walk.visit_looked_at.Given as goal

-- The arrival stays. The visitor after the fields of the names that are left is the visitor after
-- all.
abbrev pub invariant-loop-i : goal.invariant-loop-i
invariant-loop-i g l =
    let after = g.V.FieldVisitor.after l.initial.fields.profile l.part in let fields = fields_of l.initial.fields.message in let names = map (text_value (state_of l.state).values) l.names in
    (l.fields ≡ l.initial.fields) × (fold after l.visitor (fields_looked_at l.part fields (drop l.i names)) ≡ fold after l.initial.visitor (fields_looked_at l.part fields names))
