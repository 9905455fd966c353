use Rattle.std.proofs.Common.{◌≡◌, ◌≤◌, ◌+◌, ◌-◌, ◌++◌, ℕ, drop, length, take, ap, sym, ◌∙◌, arith}
use Rattle.std.proofs.lemmas.Grind.{common_steps}
use Rattle.std.proofs.lemmas.List.{append_assoc}
use Rattle.sieve_variables.specs.Value.{text_value}
use Rattle.sieve_variables.proofs.Fronts.{front_more, length-take_most}
use Rattle.sieve_variables.proofs.values.Values.joined_front.Goals as goal

pub loop-part-preserved : goal.loop-part-preserved
loop-part-preserved c =
    let values = c.args.self.now in
    let n = c.args.limit in
    let so_far = c.loop-part.front_octets.items in
    let x = c.part.result.now in
    let more = text_value values (drop (c.loop-part.part-index + 1) c.args.parts.now) in
    let len : c.len.result ≡ length so_far = grind (arith, common_steps) in
    let within : length so_far ≤ n = c.loop-part.invariant.0 in
    let items : c.extend_from_slice.new.self.items ≡ so_far ++ take (n - c.len.result) x = c.in_ok-extend_from_slice.ensures.items ∙ ap (λ l. so_far ++ l) c.front.ensures in
    let left : n - c.len.result ≡ n - length so_far = ap (λ (k : ℕ). n - k) len in
    let next : text_value values (drop c.loop-part.part-index c.args.parts.now) ≡ x ++ more = grind (arith, common_steps) in (
      rw items (length-take_most n _ so_far x within left),
      ap (λ l. take n (l ++ more)) items ∙ ap (take n) (append_assoc so_far _ more) ∙ front_more n _ so_far x more within left
          ∙ ap (λ l. take n (so_far ++ l)) (sym next) ∙ c.loop-part.invariant.1,
    )
