-- The program's context.
use Rattle.sieve_check.specs.Context.{Context}
use Rattle.sieve_check.specs.Scope.{Scope}
use Rattle.sieve_check.specs.declared.context.Context as contexts
use Rattle.sieve_profile.specs.view.Profile.{profile_as}
use Rattle.sieve_table.specs.view.Required.{required_as}
use Rattle.sieve_check.specs.declared.context.Spot as spots

abbrev pub at_spot : spots.Spot → Scope → Context
at_spot s scope = record { profile = profile_as s.profile; leads = s.leads; follows_if = s.follows_if; required = required_as s.required; finds_parts = s.finds_parts; scope = scope }

abbrev pub context_as : contexts.Context → Context
context_as c = at_spot c.spot c.scope.now
