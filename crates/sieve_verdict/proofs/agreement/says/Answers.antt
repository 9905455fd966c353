use Rattle.std.proofs.Common.{◌≡◌, ◌++◌, [], ℕ, List, None, Some, map, rules, ap, append-nil, ◌∙◌}
use Rattle.std.specs.Option.{option_copied}
use Rattle.sieve_delivery.specs.State.{actions_in}
use Rattle.sieve_delivery.specs.view.Actions.{entries_as}
use Rattle.sieve_verdict.specs.Lines.{action_line, error_lines, implicit_lines, says}
use Rattle.sieve_verdict.proofs.Left.{part_none, part_some}
use Rattle.sieve_verdict.proofs.agreement.says.Goals as goal

pub returns-in-None : goal.returns-in-None
returns-in-None c =
    let acted : List (List ℕ) = map action_line (actions_in (entries_as c.args.entries.now)) in
    let kept : List (List ℕ) = implicit_lines c.args.mailbox.now (option_copied c.args.kept) in
    let failed : List (List ℕ) = error_lines (option_copied c.args.failed) in
    let first : option_copied c.after_actions.result ≡ Some c.in-Some.left.now = search rules in
    let second : option_copied c.after_kept.result ≡ Some c.in-Some-after_kept.left.now = search rules in
    let none : option_copied c.after_failed.result ≡ None = search rules in
    part_none failed [] c.in-Some-after_kept.left.now _ c.after_failed.ensures none
    ∙ ap (says c.in-Some-after_kept.left.now) (append-nil failed)
    ∙ part_some kept failed c.in-Some.left.now c.in-Some-after_kept.left.now _ c.after_kept.ensures second
    ∙ part_some acted (kept ++ failed) c.args.text.now c.in-Some.left.now _ c.after_actions.ensures first
