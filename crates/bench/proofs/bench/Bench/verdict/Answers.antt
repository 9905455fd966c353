use Rattle.std.proofs.Common.{◌≡◌, ◌∙◌, Some, None, nat_eq, rules, sym, ap, subst}
use Rattle.std.specs.Map.{lookup}
use lib.Pointwise.{pointwise}
use Rattle.bench.specs.Report.{verdict_by}
use Rattle.bench.specs.view.Site.{site_by}
use Rattle.std.specs.List.{IsDistinct}
use Rattle.bench.proofs.Refreshing.{keys-messages}
use Rattle.bench.proofs.Marks.{kept_at, kept_of, stale-listed}
use Rattle.bench.proofs.bench.Bench.verdict.Goals as goal

pub returns-in-Some-clause-due : goal.returns-in-Some-clause-due
returns-in-Some-clause-due c =
    let found : lookup (pointwise nat_eq c.args.id.now) c.self.inside.messages.entries ≡ Some c.in-Some.entry.now = search rules in
    rw (← c.self.view_is) (c.kept.ensures ∙ ap kept_of (sym found) ∙ kept_at (verdict_by (site_by c.self.inside.main c.self.inside.envelope c.self.inside.scripts)) c.args.id.now c.self.inside.messages.entries c.self.invariant.1 c.self.invariant.0)

pub returns-in-Some-clause-ids : goal.returns-in-Some-clause-ids
returns-in-Some-clause-ids c = rw (← c.self.view_is) (subst (λ ids. IsDistinct (pointwise nat_eq) ids) (sym (keys-messages c.self.inside.messages.entries)) c.self.invariant.1)

pub returns-in-Some-clause-listed : goal.returns-in-Some-clause-listed
returns-in-Some-clause-listed c = rw (← c.self.view_is) (stale-listed c.self.inside.messages.entries c.self.invariant.1)

pub returns-in-None-clause-due : goal.returns-in-None-clause-due
returns-in-None-clause-due c =
    let found : lookup (pointwise nat_eq c.args.id.now) c.self.inside.messages.entries ≡ None = search rules in
    rw (← c.self.view_is) (ap kept_of (sym found) ∙ kept_at (verdict_by (site_by c.self.inside.main c.self.inside.envelope c.self.inside.scripts)) c.args.id.now c.self.inside.messages.entries c.self.invariant.1 c.self.invariant.0)

pub returns-in-None-clause-ids : goal.returns-in-None-clause-ids
returns-in-None-clause-ids c = rw (← c.self.view_is) (subst (λ ids. IsDistinct (pointwise nat_eq) ids) (sym (keys-messages c.self.inside.messages.entries)) c.self.invariant.1)

pub returns-in-None-clause-listed : goal.returns-in-None-clause-listed
returns-in-None-clause-listed c = rw (← c.self.view_is) (stale-listed c.self.inside.messages.entries c.self.invariant.1)
