use Rattle.std.proofs.Common.{sym, ◌∙◌}
use Rattle.sieve_profile.specs.view.Profile.{profile_as}
use Rattle.sieve_profile.proofs.Asked.{known, unknown}
use Rattle.sieve_profile.proofs.profile.Profile.with_named.Goals as goal

pub returns-then-is_asking : goal.returns-then-is_asking
returns-then-is_asking c = known (profile_as c.args.self) (profile_as c.with_each.result) c.args.name.now (sym c.is_asking.ensures ∙ c.if-is_asking.true) c.with_each.ensures

pub returns-else-is_asking : goal.returns-else-is_asking
returns-else-is_asking c = unknown (profile_as c.args.self) c.args.name.now (sym c.is_asking.ensures ∙ c.if-is_asking.false)
