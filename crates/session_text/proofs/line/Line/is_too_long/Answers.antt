use Rattle.octets.specs.Octet.{octet_of}
use Rattle.std.proofs.Common.{◌≡◌, ◌≢◌, ◌≤◌, inl, inr, get_or, rules, arith, length}
use Rattle.session_text.proofs.Lines.{first_line-long, may_be_line}
use Rattle.session_text.proofs.line.Line.is_too_long.Goals as goal

pub returns-then-pending-clause-yes : goal.returns-then-pending-clause-yes
returns-then-pending-clause-yes c = λ _ left. first_line-long c.args.pending.now left c.requires (inl c.if-pending.true)

pub returns-then-pending-2-clause-yes : goal.returns-then-pending-2-clause-yes
returns-then-pending-2-clause-yes c = λ yes left.
    let other : get_or c.args.pending.now 16384 0 ≢ octet_of "\r" = search rules in
    first_line-long c.args.pending.now left c.requires (inr (c.if-pending-2.true, other))

pub returns-then-pending-2-clause-may : goal.returns-then-pending-2-clause-may
returns-then-pending-2-clause-may c = λ no.
    let other : get_or c.args.pending.now 16384 0 ≡ octet_of "\r" = search rules in
    (c.requires, may_be_line c.args.pending.now (inr (c.if-pending-2.true, other)))

pub returns-else-pending-2-clause-may : goal.returns-else-pending-2-clause-may
returns-else-pending-2-clause-may c = λ no.
    let few : length c.args.pending.now ≤ 16384 = omega (arith, c.if-pending.false, c.if-pending-2.false) in
    (c.requires, may_be_line c.args.pending.now (inl few))
