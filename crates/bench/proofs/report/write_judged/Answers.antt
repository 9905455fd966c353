use Rattle.std.proofs.Common.{refl}
use Rattle.bench.proofs.Lines.{verdict_in_turn}
use Rattle.bench.proofs.Writing.{begins, goes_on, stops, ends_last}
use Rattle.bench.proofs.report.write_judged.Goals as goal

pub returns-in_err-write_message : goal.returns-in_err-write_message
returns-in_err-write_message g c = stops _ _ _ c.from_residual.ensures.0 _ _ _ _ _ _ _ (begins _ _ _ _) refl c.in_err-write_message.ensures

pub returns-in_err-write_addresses : goal.returns-in_err-write_addresses
returns-in_err-write_addresses g c =
    stops _ _ _ c.from_residual-in_err-write_addresses.ensures.0 _ _ _ _ _ _ _ (goes_on _ _ _ _ _ _ _ _ (begins _ _ _ _) c.in_ok-write_message.ensures) refl (rw c.addresses.ensures at c.in_err-write_addresses.ensures)

pub returns-in_err-write_verdict : goal.returns-in_err-write_verdict
returns-in_err-write_verdict g c =
    rw (verdict_in_turn c.args.site.now.scripts.now.profile c.args.site.now.envelope.now.mailbox c.args.verdict.now)
    (stops _ _ _ c.from_residual-in_err-write_verdict.ensures.0 _ _ _ _ _ _ _
    (goes_on _ _ _ _ _ _ _ _ (goes_on _ _ _ _ _ _ _ _ (begins _ _ _ _) c.in_ok-write_message.ensures) (rw c.addresses.ensures at c.in_ok-write_addresses.ensures)) refl (rw c.is_traced.ensures at c.in_err-write_verdict.ensures))

pub returns : goal.returns
returns g c =
    rw (verdict_in_turn c.args.site.now.scripts.now.profile c.args.site.now.envelope.now.mailbox c.args.verdict.now)
    (ends_last _ _ _ _ _ _ _ _
    (goes_on _ _ _ _ _ _ _ _ (goes_on _ _ _ _ _ _ _ _ (goes_on _ _ _ _ _ _ _ _ (begins _ _ _ _) c.in_ok-write_message.ensures) (rw c.addresses.ensures at c.in_ok-write_addresses.ensures)) (rw c.is_traced.ensures at c.in_ok-write_verdict.ensures))
    (rw c.expected.ensures at c.write_expectation.ensures))
