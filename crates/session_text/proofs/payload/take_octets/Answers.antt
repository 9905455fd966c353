use Rattle.std.proofs.Common.{◌≡◌, ◌+◌, ◌-◌, ◌<◌, ◌≤◌, ◌∙◌, ap, arith, length, take}
use Rattle.session_text.specs.view.Input.{Input}
use Rattle.session_text.proofs.Taking.{taking, takes-kept, takes-more}
use Rattle.session_text.proofs.Reading.{reading}
use Rattle.session_text.proofs.payload.take_octets.Goals as goal

pub returns-in-Ended-clause-taken : goal.returns-in-Ended-clause-taken
returns-in-Ended-clause-taken g c = grind (arith, taking, reading)

pub loop-left-preserved : goal.loop-left-preserved
loop-left-preserved g c =
    let part = c.min-part.result in
    let size = ap length c.pending-pending.ensures in
    let within : part ≤ length c.refresh.new.self.pending = omega (arith, size, c.min-part.ensures) in
    let sum : c.args.count - (c.loop-left.left - part) ≡ c.args.count - c.loop-left.left + part = omega (arith, c.min-part.ensures, c.loop-left.invariant.0) in
    let taken = takes-kept _ _ _ _ _ c.loop-left.invariant.1 c.refresh.ensures.keeps in
    let grown = rw (c.split_at.ensures.front ∙ ap (take part) c.pending-pending.ensures) at c.with_more-kept.ensures.more in (
      omega (arith, c.loop-left.invariant.0),
      rw sum (rw c.consume.ensures.pending (takes-more _ _ _ _ c.refresh.new.self.pending _ _ within taken grown)),
      grind (arith, taking, reading),
      grind (arith, taking, reading),
      grind (arith, taking, reading),
      λ all.
          let so_far = c.loop-left.invariant.5 all in
          let some : 0 < length c.loop-left.input.pending = omega (arith, so_far.0, c.loop-left-test.true) in
          let same = c.refresh.ensures.still some in (
            omega (arith, so_far.0, size, ap (λ (i : Input). length i.pending) same.0, c.min-part.ensures),
            c.consume.ensures.turns ∙ ap (λ (i : Input). i.turns) same.0 ∙ so_far.1,
            c.consume.ensures.ended ∙ ap (λ (i : Input). i.ended) same.0 ∙ so_far.2,
            same.1 ∙ so_far.3,
          ),
      λ over.
          let so_far = c.loop-left.invariant.6 over in
          let same = c.refresh.ensures.past_end so_far.1 in (
            c.consume.ensures.turns ∙ ap (λ (i : Input). i.turns) same.0 ∙ so_far.0,
            c.consume.ensures.ended ∙ ap (λ (i : Input). i.ended) same.0 ∙ so_far.1,
            same.1 ∙ so_far.2,
          ),
      grind (arith, taking, reading),
    )
