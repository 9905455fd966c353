use Rattle.std.proofs.Common.{sym, ◌∙◌}
use Rattle.message_text.proofs.HeadLemmas.{head, no_colon, no_name}
use Rattle.message_text.proofs.fields.head_of.Goals as goal

pub returns-in_err-colon-clause-none : goal.returns-in_err-colon-clause-none
returns-in_err-colon-clause-none c = rw c.from_residual.ensures (no_colon c.args.line.now c.in_err-colon.ensures)

pub returns-then-not-is_name-clause-none : goal.returns-then-not-is_name-clause-none
returns-then-not-is_name-clause-none c =
    let found = c.in_ok-colon.ensures in
    no_name c.args.line.now c.in_ok-colon.colon _ found.0 found.1 c.trim_end-name.ensures (sym c.is_name.ensures ∙ c.if-not-is_name.true)

pub returns-clause-some : goal.returns-clause-some
returns-clause-some c =
    let found = c.in_ok-colon.ensures in
    head c.args.line.now c.in_ok-colon.colon _ found.0 found.1 c.trim_end-name.ensures (sym c.is_name.ensures ∙ c.if-not-is_name.false)
