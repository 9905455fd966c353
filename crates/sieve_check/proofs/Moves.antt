-- The context after a command of a kind.
use Rattle.std.proofs.Common.{◌≡◌, Bool, ◌&&◌, List, Some, ap, ◌∙◌}
use Rattle.sieve_syntax.specs.Tree.{Argument}
use Rattle.sieve_check.specs.Context.{Context, allows_else, after_kind, is_require, naming_said, required_after}
use Rattle.sieve_table.specs.Required.{Required}
use Rattle.sieve_check.specs.Scope.{Scope}
use Rattle.sieve_script.specs.Shape.{known_labels}
use Rattle.sieve_check.specs.view.Context.{at_spot}
use Rattle.sieve_profile.specs.view.Profile.{profile_as}
use Rattle.sieve_table.specs.view.Required.{required_as}
use Rattle.sieve_table.specs.declared.required.Required as requireds
use Rattle.sieve_check.specs.declared.context.Spot.{Spot}
use Rattle.sieve_table.specs.Table.{command_row}
use Rattle.sieve_table.specs.declared.table.CommandKind.{CommandKind}

abbrev after_by : Spot → Bool → Bool → Required → Scope → Context
after_by s leads follows_if required scope = record { profile = profile_as s.profile; leads = leads; follows_if = follows_if; required = required; finds_parts = s.finds_parts; scope = scope }

pub spot_moves : (s : Spot) (kind : CommandKind) (args : List Argument) (leads follows_if : Bool) (required : requireds.Required) → leads ≡ (s.leads && is_require kind) → follows_if ≡ allows_else kind → ((scope : Scope) → required_as required ≡ required_after (at_spot s scope) kind args)
    → (scope : Scope) → at_spot (record { profile = s.profile; leads = leads; follows_if = follows_if; required = required; finds_parts = s.finds_parts }) (naming_said (required_as s.required) scope (known_labels (profile_as s.profile) (command_row kind) args) args) ≡ after_kind (at_spot s scope) (Some kind) args
spot_moves s kind args leads follows_if required l f r scope =
    let names = naming_said (required_as s.required) scope (known_labels (profile_as s.profile) (command_row kind) args) args in
    ap (λ x. after_by s x follows_if (required_as required) names) l
    ∙ ap (λ x. after_by s (s.leads && is_require kind) x (required_as required) names) f
    ∙ ap (λ x. after_by s (s.leads && is_require kind) (allows_else kind) x names) (r scope)
