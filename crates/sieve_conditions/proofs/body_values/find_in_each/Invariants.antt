use Rattle.std.proofs.Common.{◌≡◌, drop, map}
use Rattle.mime_text.specs.view.Entities.{entity_as}
use Rattle.octets.specs.view.Texts.{octets_of_each}
use Rattle.sieve_profile.specs.view.Profile.{profile_as}
use Rattle.sieve_conditions.specs.Matching.{first_some}
use Rattle.sieve_conditions.specs.view.FieldTests.{entity_found, found_with}
use Rattle.sieve_conditions.proofs.body_values.find_in_each.Given as goal

-- the entities that are left give the match values of all
abbrev pub invariant-loop-entity : goal.invariant-loop-entity
invariant-loop-entity l =
    first_some (entity_found (found_with l.matcher) (profile_as l.profile) (octets_of_each l.entries)) (map entity_as (drop l.entity-index l.entities))
    ≡ first_some (entity_found (found_with l.matcher) (profile_as l.profile) (octets_of_each l.entries)) (map entity_as l.entities)
