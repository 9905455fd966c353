use Rattle.std.proofs.lemmas.List.Elements.{All-push}
use Rattle.message_text.specs.view.Spans.{IsSpan}
use Rattle.message_text.proofs.fields.push_span.Goals as goal

pub returns-in_ok-push-clause-each : goal.returns-in_ok-push-clause-each
returns-in_ok-push-clause-each c =
    λ all. rw c.in_ok-push.ensures.items (All-push (IsSpan c.args.octets.now) c.args.spans.now.items c.in-Some.span all c.in-Some.ensures.span)
