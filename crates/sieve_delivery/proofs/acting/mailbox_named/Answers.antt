use Rattle.std.proofs.Common.{Some, ap, sym, ◌∙◌}
use Rattle.sieve_delivery.proofs.NameFronts.{front_found, front_missed}
use Rattle.sieve_delivery.proofs.acting.mailbox_named.Goals as goal

pub returns-then-is_mailbox : goal.returns-then-is_mailbox
returns-then-is_mailbox c =
    ap Some (c.in_ok-copied.ensures ∙ c.as_slice-then-is_mailbox.ensures.value ∙ sym c.as_slice.ensures.value)
    ∙ front_found c.args.values.now c.args.mailbox.now c.as_slice.result.now (c.as_slice.ensures.value ∙ c.in_ok-name.ensures.octets) (sym c.is_mailbox.ensures ∙ c.if-is_mailbox.true)

pub returns : goal.returns
returns c =
    front_missed c.args.values.now c.args.mailbox.now c.as_slice.result.now (c.as_slice.ensures.value ∙ c.in_ok-name.ensures.octets) (sym c.is_mailbox.ensures ∙ c.if-is_mailbox.false)
