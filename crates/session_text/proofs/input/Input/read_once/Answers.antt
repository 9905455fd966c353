use Rattle.std.proofs.Common.{◌≡◌, ◌+◌, ◌-◌, ◌<◌, List, ℕ, length, take, drop, ap, ◌∙◌, rules, arith, length-take, length-drop}
use Rattle.std.proofs.lemmas.Grind.{common_steps}
use Rattle.std.proofs.lemmas.List.{with_items_is}
use Rattle.std.specs.List.{slice_range}
use Rattle.session_text.specs.view.Input.{Input}
use Rattle.session_text.proofs.Reading.{gave_fault, gave_octets}
use Rattle.session_text.proofs.Unused.{unused-read}
use Rattle.session_text.proofs.input.Input.read_once.Goals as goal

from_zero : (xs : List ℕ) (n : ℕ) → slice_range xs 0 n ≡ take n xs
from_zero xs n = grind (arith, common_steps)

pub returns-in-Ok-clause-keeps : goal.returns-in-Ok-clause-keeps
returns-in-Ok-clause-keeps g c =
    let b = c.self.inside in
    let seen : take (b.end - b.start) (drop b.start b.buffer.items) ≡ c.args.self.now.pending = ap (λ (i : Input). i.pending) c.self.view_is in
    let used = b.end - b.start in
    let len : length c.refill-read.new.buffer ≡ b.buffer.len = search rules in
    unused-read c.args.self.now.pending _ c.refill-read.new.buffer _ _ used c.in-Ok.count
    (c.in-Ok.ensures.front ∙ ap (λ l. take used (drop b.start l)) c.deref_mut.ensures.value ∙ seen)
    (from_zero _ _ ∙ ap (take (used + c.in-Ok.count)) (with_items_is b.buffer c.refill-read.new.buffer len))
    c.in-Ok.ensures.read.1

pub returns-in-Ok-clause-gave : goal.returns-in-Ok-clause-gave
returns-in-Ok-clause-gave g c = λ some.
    let used = c.self.inside.end - c.self.inside.start in
    let buffer = c.refill-read.new.buffer in
    let count = c.in-Ok.count in
    let turns : c.self.inside.turns ≡ c.args.self.now.turns = ap (λ (i : Input). i.turns) c.self.view_is in
    let size : 0 < length (take count (drop used buffer)) = omega (arith, some, length-take count (drop used buffer), length-drop used buffer, c.in-Ok.ensures.read.0) in
    gave_octets _ _ _ _ _ _ (take count (drop used buffer)) c.in-Ok.ensures.read.1 size (omega (arith, turns, c.requires.turn)) c.in-Ok.ensures.faults

pub returns-in-Err-clause-gave : goal.returns-in-Err-clause-gave
returns-in-Err-clause-gave g c =
    let turns : c.self.inside.turns ≡ c.args.self.now.turns = ap (λ (i : Input). i.turns) c.self.view_is in
    gave_fault _ _ _ _ _ _ c.in-Err.ensures.read (omega (arith, turns, c.requires.turn)) c.in-Err.ensures.failed
