use Rattle.std.proofs.Common.{drop, sym, ap, ◌∙◌}
use Rattle.std.specs.Str.Lines.{lines}
use Rattle.message_text.proofs.ContinuationLemmas.{no_lines}
use Rattle.message_text.specs.view.Spans.{continues}
use Rattle.message_text.proofs.values.continuation_at.Goals as goal

pub returns-then-not-continues_at-clause-none : goal.returns-then-not-continues_at-clause-none
returns-then-not-continues_at-clause-none c = no_lines (lines (drop c.args.start c.args.octets.now)) (sym c.continues_at.ensures.is ∙ c.if-not-continues_at.true)

pub returns-clause-continues : goal.returns-clause-continues
returns-clause-continues c =
    sym (ap continues c.line_at.ensures.first) ∙ sym c.continues_at.ensures.is ∙ c.if-not-continues_at.false
