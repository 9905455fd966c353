use Rattle.std.proofs.Common.{◌≡◌, ◌+◌, ◌-◌, ◌≤◌, length, drop, take, ap, ◌∙◌, arith, length-take}
use Rattle.session_text.specs.view.Input.{Input}
use Rattle.session_text.proofs.Ranges.{range-later}
use Rattle.session_text.proofs.input.Input.consume.Goals as goal

pub returns-clause-pending : goal.returns-clause-pending
returns-clause-pending c =
    let b = c.self.inside in
    let seen : take (b.end - b.start) (drop b.start b.buffer.items) ≡ c.args.self.now.pending = ap (λ (i : Input). i.pending) c.self.view_is in
    let within : b.start + c.args.count ≤ b.end = omega (arith, ap length seen, length-take (b.end - b.start) (drop b.start b.buffer.items), c.self.invariant.0) in
    range-later b.buffer.items b.start c.args.count b.end within ∙ ap (drop c.args.count) seen
