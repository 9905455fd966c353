use Rattle.std.proofs.Common.{◌≡◌, ◌+◌, drop, length, map}
use Rattle.mime_text.specs.Values.{texts_named}
use Rattle.mime_text.specs.view.Entities.{entity_as}
use Rattle.octets.specs.view.Texts.{octets_of_each}
use Rattle.sieve_profile.specs.Profile.{Profile}
use Rattle.sieve_conditions.proofs.body_values.count_in_each.Given as goal

-- the values that are counted and those of the entities that are left are all
abbrev pub invariant-loop-entity : goal.invariant-loop-entity
invariant-loop-entity l =
    (profile : Profile) → l.count + length (texts_named profile (octets_of_each l.entries) (map entity_as (drop l.entity-index l.entities))) ≡ length (texts_named profile (octets_of_each l.entries) (map entity_as l.entities))
