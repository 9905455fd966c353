use Rattle.std.proofs.Common.{◌+◌, ◌&&◌, List, ℕ, drop, map, ap, sym, ◌∙◌}
use Rattle.std.specs.List.{list_all}
use Rattle.sieve_conditions.specs.Matching.{has_mailbox}
use Rattle.sieve_variables.specs.Value.{text_value}
use Rattle.sieve_conditions.proofs.mailboxes.has_mailboxes.Goals as goal

pub returns-then-not-has_mailbox : goal.returns-then-not-has_mailbox
returns-then-not-has_mailbox c =
    let has = has_mailbox c.args.envelope.now in let rest : List (List ℕ) = drop (c.loop-i.i + 1) (map (text_value c.args.values.now) c.args.names.now) in
    sym (ap (list_all has) c.in_ok-name.ensures ∙ ap (λ b. b && list_all has rest) (sym c.has_mailbox.ensures ∙ c.if-not-has_mailbox.true)) ∙ c.loop-i.invariant

pub loop-i-preserved : goal.loop-i-preserved
loop-i-preserved c =
    let has = has_mailbox c.args.envelope.now in let rest : List (List ℕ) = drop (c.loop-i.i + 1) (map (text_value c.args.values.now) c.args.names.now) in
    sym (ap (list_all has) c.in_ok-name.ensures ∙ ap (λ b. b && list_all has rest) (sym c.has_mailbox.ensures ∙ c.if-not-has_mailbox.false)) ∙ c.loop-i.invariant
