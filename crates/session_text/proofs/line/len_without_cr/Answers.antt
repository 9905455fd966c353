use Rattle.octets.specs.Octet.{octet_of}
use Rattle.std.proofs.Common.{◌≡◌, ℕ, ◌+◌, ◌-◌, ◌<◌, ◌≤◌, List, take, length, arith, ap, ◌∙◌, get_or, eqb, cond, ◌≢◌, refl}
use Rattle.std.proofs.lemmas.Bool.Decides.{nat_tests}
use Rattle.session_text.specs.SessionLine.{without_cr}
use Rattle.session_text.proofs.Lines.{without_cr-take}
use Rattle.session_text.proofs.line.len_without_cr.Goals as goal
use Rattle.session_text.proofs.line.len_without_cr.Goals.{else-end-gt0-via-then-end-gt0+else-octets-end-eq13, else-end-gt0-via-else-end-gt0}

-- a CR directly before `end` is dropped from the octets before `end`
with_cr : (bs : List ℕ) (end : ℕ) → 0 < end → end ≤ length bs → get_or bs (end - 1) 0 ≡ octet_of "\r" → without_cr (take end bs) ≡ take (end - 1) bs
with_cr bs end some within is =
    let i = end - 1 in
    let e : end ≡ i + 1 = omega arith in
    let step = without_cr-take bs i (omega arith) in
    ap (λ n. without_cr (take n bs)) e ∙ step ∙ ap (λ b. cond (eqb b (octet_of "\r")) (take i bs) (take (i + 1) bs)) is

-- the octets before `end` stay as they are where the last of them is no CR
without : (bs : List ℕ) (end : ℕ) → 0 < end → end ≤ length bs → get_or bs (end - 1) 0 ≢ octet_of "\r" → without_cr (take end bs) ≡ take end bs
without bs end some within is =
    let i = end - 1 in
    let e : end ≡ i + 1 = omega arith in
    let step = without_cr-take bs i (omega arith) in
    grind (arith, nat_tests, e, step)

-- where no octets stand before `end`, none is dropped
none : (bs : List ℕ) (end : ℕ) → end ≤ 0 → without_cr (take end bs) ≡ take end bs
none bs end is = let e : end ≡ 0 = omega arith in rw e refl

pub returns-then-octets-end-eq13-clause-line : goal.returns-then-octets-end-eq13-clause-line
returns-then-octets-end-eq13-clause-line c = with_cr c.args.octets.now c.args.end c.if-end-gt0.true c.requires c.if-octets-end-eq13.true

pub returns-else-end-gt0-clause-line : goal.returns-else-end-gt0-clause-line
returns-else-end-gt0-clause-line c = elim c.else-end-gt0.branch [
  | else-end-gt0-via-then-end-gt0+else-octets-end-eq13 w ↦ without c.args.octets.now c.args.end w.if-end-gt0.true c.requires w.if-octets-end-eq13.false
  | else-end-gt0-via-else-end-gt0 w ↦ none c.args.octets.now c.args.end w.if-end-gt0.false
]
