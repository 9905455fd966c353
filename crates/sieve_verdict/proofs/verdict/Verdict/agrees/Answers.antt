use Rattle.std.proofs.Common.{◌≡◌, ◌==◌, ◌&&◌, ◌<◌, Bool, true, false, not, IsTrue, length, ap, rules, subst, sym, ◌∙◌}
use Rattle.std.specs.Str.Lines.{lines}
use Rattle.sieve_verdict.specs.Lines.{agrees, says, verdict_lines}
use Rattle.sieve_verdict.proofs.Left.{agrees_is, agrees_where}
use Rattle.sieve_verdict.proofs.verdict.Verdict.agrees.Goals as goal

pub returns-then-not-is_empty-clause-value : goal.returns-then-not-is_empty-clause-value
returns-then-not-is_empty-clause-value c =
    let empty : c.is_empty.result ≡ (length c.args.text.now == 0) = search rules in
    let filled : not (length c.args.text.now == 0) ≡ true = ap not (sym empty ∙ c.if-not-is_empty.true) in
    let is : c.says-has_lines.result ≡ says c.args.text.now (verdict_lines c.args.mailbox.now c.args.self.now) = rw (c.entries.ensures.entries, c.implicit.ensures, c.error.ensures) at c.says-has_lines.ensures in
    is ∙ sym (agrees_is c.args.mailbox.now c.args.self.now c.args.text.now ∙ ap (λ some. some && says c.args.text.now (verdict_lines c.args.mailbox.now c.args.self.now)) filled)

pub returns-then-not-is_empty-clause-lines : goal.returns-then-not-is_empty-clause-lines
returns-then-not-is_empty-clause-lines c =
    let empty : c.is_empty.result ≡ (length c.args.text.now == 0) = search rules in
    let filled : not (length c.args.text.now == 0) ≡ true = ap not (sym empty ∙ c.if-not-is_empty.true) in
    let is : c.says-has_lines.result ≡ says c.args.text.now (verdict_lines c.args.mailbox.now c.args.self.now) = rw (c.entries.ensures.entries, c.implicit.ensures, c.error.ensures) at c.says-has_lines.ensures in
    let value : agrees c.args.mailbox.now c.args.self.now c.args.text.now ≡ c.says-has_lines.result =
    agrees_is c.args.mailbox.now c.args.self.now c.args.text.now ∙ ap (λ some. some && says c.args.text.now (verdict_lines c.args.mailbox.now c.args.self.now)) filled ∙ sym is in
    let P : Type 0 = (0 < length c.args.text.now) × (lines c.args.text.now ≡ verdict_lines c.args.mailbox.now c.args.self.now) in
    subst (λ (answer : Bool). (IsTrue answer → P) × (P → IsTrue answer)) value (agrees_where c.args.mailbox.now c.args.self.now c.args.text.now)

pub returns-else-not-is_empty-clause-value : goal.returns-else-not-is_empty-clause-value
returns-else-not-is_empty-clause-value c =
    let empty : c.is_empty.result ≡ (length c.args.text.now == 0) = search rules in
    let none : not (length c.args.text.now == 0) ≡ false = ap not (sym empty ∙ c.if-not-is_empty.false) in
    ap not c.if-not-is_empty.false ∙ sym (agrees_is c.args.mailbox.now c.args.self.now c.args.text.now ∙ ap (λ some. some && says c.args.text.now (verdict_lines c.args.mailbox.now c.args.self.now)) none)
