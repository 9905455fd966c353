use Rattle.std.proofs.Common.{◌≡◌, ◌-◌, [], ◌∷◌, drop, length}
use Rattle.std.specs.List.{fold}
use Rattle.message_text.specs.Fields.{fields_of}
use Rattle.sieve_conditions.specs.Matching.{fields_looked_at, fields_named}
use Rattle.sieve_conditions.proofs.field_walk.visit_named.Given as goal

-- The arrival stays. The visitor after the fields that are left is the visitor after all.
abbrev pub invariant-loop-alloc : goal.invariant-loop-alloc
invariant-loop-alloc g l =
    let after = g.V.FieldVisitor.after l.initial.fields.profile l.part in let fields = fields_of l.initial.fields.message in
    (l.fields ≡ l.initial.fields) × (fold after l.visitor (fields_named (drop l.start fields) l.name) ≡ fold after l.initial.visitor (fields_looked_at l.part fields (l.name ∷ [])))

abbrev pub decreases-loop-alloc : goal.decreases-loop-alloc
decreases-loop-alloc g l = length (fields_of l.initial.fields.message) - l.start
