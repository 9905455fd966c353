-- The octets between two places of a buffer.
use Rattle.std.proofs.Common.{◌≡◌, ℕ, ◌+◌, ◌-◌, ◌≤◌, List, take, drop, sym, ap, ◌∙◌, arith}
use Rattle.std.proofs.lemmas.List.{drop-take, drop-drop}

-- a range that starts later lacks the first octets of the range
pub range-later : (xs : List ℕ) (start count end : ℕ) → start + count ≤ end → take (end - (start + count)) (drop (start + count) xs) ≡ drop count (take (end - start) (drop start xs))
range-later xs start count end within =
    let m = end - (start + count) in
    let split : end - start ≡ count + m = omega arith in
    sym (ap (λ n. drop count (take n (drop start xs))) split ∙ drop-take count m (drop start xs) ∙ ap (take m) (drop-drop count start xs))
