use Rattle.std.proofs.Common.{◌≡◌, length, sym, ap, ◌∙◌}
use Rattle.bench.specs.Report.{unexpected_count}
use Rattle.bench.specs.view.Entry.{judged_of}
use Rattle.bench.proofs.Judged.{judged-all}
use Rattle.bench.proofs.report.write_totals.Goals as goal

pub returns : goal.returns
returns g c =
    let all : c.len.result ≡ length (judged_of c.args.messages.now.entries) = c.len.ensures.len ∙ sym (judged-all c.args.messages.now.entries c.requires) in
    let unexpected : c.unexpected_count-unexpected.result ≡ unexpected_count c.args.envelope.now.mailbox (judged_of c.args.messages.now.entries) = c.unexpected_count-unexpected.ensures ∙ ap (λ m. unexpected_count m (judged_of c.args.messages.now.entries)) c.as_slice.ensures in
    rw (← all, ← c.error_count.ensures, ← unexpected) c.write_total.ensures
