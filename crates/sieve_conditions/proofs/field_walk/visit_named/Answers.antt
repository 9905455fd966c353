use Rattle.std.proofs.Common.{◌≡◌, ◌+◌, ◌<◌, ℕ, Some, false, arith, drop, map, ap, refl, subst, sym, ◌∙◌}
use Rattle.std.specs.List.{fold, slice_get}
use Rattle.message_text.specs.Fields.{Field, fields_of, is_field_named}
use Rattle.sieve_delivery.specs.Delivery.{Arrival}
use Rattle.sieve_conditions.specs.Matching.{fields_named, is_looked_at}
use Rattle.sieve_conditions.specs.view.FieldCache.{IsNextField}
use Rattle.sieve_conditions.proofs.FieldsInTurn.{looked_at, past_failing, stays}
use Rattle.sieve_conditions.proofs.field_walk.visit_named.Goals as goal

pub loop-alloc-init : goal.loop-alloc-init
loop-alloc-init g c =
    let after = g.V.FieldVisitor.after c.args.fields.now.profile c.args.part in
    let looked = ap (is_looked_at c.args.part) (sym c.octets.ensures) ∙ sym c.is_looked_at.ensures ∙ c.if-not-is_looked_at.false in
    (refl, ap (fold after c.args.visitor.now) (sym (looked_at c.args.part (fields_of c.args.fields.now.message) c.args.name.now looked)))

pub returns-clause-seen : goal.returns-clause-seen
returns-clause-seen g c =
    let profile = c.args.fields.now.profile in
    let visitor = c.loop-alloc.visitor in
    let left = fields_named (drop c.loop-alloc.start (fields_of c.args.fields.now.message)) c.args.name.now in
    sym (stays (g.V.FieldVisitor.after profile c.args.part) visitor (λ field. g.met.V.FieldVisitor.rests profile c.args.part visitor field (sym c.is_done.ensures ∙ c.loop-alloc-test.false)) left)
    ∙ c.loop-alloc.invariant.1

pub loop-alloc-preserved : goal.loop-alloc-preserved
loop-alloc-preserved g c =
    let after = g.V.FieldVisitor.after c.args.fields.now.profile c.args.part in
    let fields = fields_of c.args.fields.now.message in
    let name = c.args.name.now in
    let i = c.in-Some.i in
    let visitor = c.loop-alloc.visitor in
    let found = c.next_named.ensures.arrival ∙ c.loop-alloc.invariant.0 in
    let same = c.visit.ensures.arrival ∙ found in
    let next = subst (λ (a : Arrival). IsNextField a.message name c.loop-alloc.start i) c.loop-alloc.invariant.0 c.in-Some.ensures.some in
    let seen = subst (λ (a : Arrival). (field : Field) → slice_get (fields_of a.message) i ≡ Some field → c.visit.new.self ≡ g.V.FieldVisitor.after a.profile c.args.part visitor field) found c.in_ok-visit.ensures.seen in
    let others = subst (λ (a : Arrival). (k : ℕ) → i < k → k < c.after_named-start.result → slice_get (map (is_field_named name) (fields_of a.message)) k ≡ Some false) same c.after_named-start.ensures.others in
    let more : i < c.after_named-start.result = c.after_named-start.ensures.more in (
      same,
      ap (fold after c.visit.new.self) (past_failing (is_field_named name) fields (i + 1) c.after_named-start.result (omega arith) (λ k low high. others k (omega arith) high))
          ∙ ap (λ v. fold after v (fields_named (drop (i + 1) fields) name)) (seen next.field next.at)
          ∙ ap (fold after visitor) (sym next.rest)
          ∙ c.loop-alloc.invariant.1,
    )
