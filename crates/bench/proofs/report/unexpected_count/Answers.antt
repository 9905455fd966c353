use Rattle.std.proofs.Common.{◌≡◌, Some, is_some, true, false, sym, ap, ◌∙◌}
use Rattle.std.specs.List.{list_any}
use Rattle.bench.proofs.Judged.{unexpected_none, unexpected_some}
use Rattle.bench.proofs.report.unexpected_count.Goals as goal

pub returns-then-are_expecting : goal.returns-then-are_expecting
returns-then-are_expecting c =
    let some : list_any (λ e. is_some e.1.expected) c.args.messages.now.entries ≡ true = sym c.are_expecting.ensures ∙ c.if-are_expecting.true in
    ap Some c.unlike_count.ensures ∙ sym (unexpected_some c.args.mailbox.now c.args.messages.now.entries c.requires some)

pub returns-else-are_expecting : goal.returns-else-are_expecting
returns-else-are_expecting c =
    let none : list_any (λ e. is_some e.1.expected) c.args.messages.now.entries ≡ false = sym c.are_expecting.ensures ∙ c.if-are_expecting.false in
    sym (unexpected_none c.args.mailbox.now c.args.messages.now.entries c.requires none)
