use Rattle.std.proofs.Common.{◌≡◌, count_by, sym, ◌∙◌, rules}
use Rattle.bench.specs.view.Entry.{has_error}
use Rattle.bench.proofs.Judged.{judged-errors}
use Rattle.bench.proofs.report.error_count.Goals as goal

pub returns : goal.returns
returns c =
    let count : c.count.result ≡ count_by (λ e. has_error e.1.kept) c.args.messages.now.entries = search rules in
    count ∙ sym (judged-errors c.args.messages.now.entries)
