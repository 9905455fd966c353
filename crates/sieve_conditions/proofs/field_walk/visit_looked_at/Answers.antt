use Rattle.std.proofs.Common.{◌≡◌, ◌+◌, [], ◌∷◌, map, drop, ap, sym, subst, ◌∙◌}
use Rattle.std.specs.List.{fold}
use Rattle.message_text.specs.Fields.{fields_of}
use Rattle.sieve_delivery.specs.Delivery.{Arrival}
use Rattle.sieve_conditions.specs.Matching.{fields_looked_at}
use Rattle.sieve_delivery.specs.view.State.{state_of}
use Rattle.sieve_variables.specs.Value.{text_value}
use Rattle.sieve_conditions.proofs.FieldsInTurn.{stays, visited_on}
use Rattle.sieve_conditions.proofs.field_walk.visit_looked_at.Goals as goal

pub returns-then-is_done-clause-seen : goal.returns-then-is_done-clause-seen
returns-then-is_done-clause-seen g c =
    let profile = c.args.fields.now.profile in
    let visitor = c.loop-i.visitor in
    let left = fields_looked_at c.args.part (fields_of c.args.fields.now.message) (drop c.loop-i.i (map (text_value (state_of c.args.state.now).values) c.args.names.now)) in
    sym (stays (g.V.FieldVisitor.after profile c.args.part) visitor (λ field. g.met.V.FieldVisitor.rests profile c.args.part visitor field (sym c.is_done.ensures ∙ c.if-is_done.true)) left)
    ∙ c.loop-i.invariant.1

pub loop-i-preserved : goal.loop-i-preserved
loop-i-preserved g c =
    let after = g.V.FieldVisitor.after c.args.fields.now.profile c.args.part in
    let fields = fields_of c.args.fields.now.message in
    let names = map (text_value (state_of c.args.state.now).values) c.args.names.now in
    let seen = subst (λ (a : Arrival). c.visit_named.new.visitor ≡ fold (g.V.FieldVisitor.after a.profile c.args.part) c.loop-i.visitor (fields_looked_at c.args.part (fields_of a.message) (c.in_ok-name.name ∷ []))) c.loop-i.invariant.0 c.in_ok-visit_named.ensures.seen in (
      c.visit_named.ensures.arrival ∙ c.loop-i.invariant.0,
      ap (λ v. fold after v (fields_looked_at c.args.part fields (drop (c.loop-i.i + 1) names))) seen
          ∙ visited_on c.args.part fields after names c.loop-i.i c.in_ok-name.name c.loop-i.visitor c.in_ok-name.ensures
          ∙ c.loop-i.invariant.1,
    )
