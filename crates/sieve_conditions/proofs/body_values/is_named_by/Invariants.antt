use Rattle.std.proofs.Common.{◌≡◌, drop}
use Rattle.mime_text.specs.Values.{is_named_by}
use Rattle.mime_text.specs.view.Entities.{entity_as}
use Rattle.octets.specs.view.Texts.{octets_of_each}
use Rattle.sieve_conditions.proofs.body_values.is_named_by.Given as goal

-- one of the entries that are left names the entity exactly if one of all does
abbrev pub invariant-loop-entry : goal.invariant-loop-entry
invariant-loop-entry l = is_named_by (octets_of_each (drop l.entry-index l.entries)) (entity_as l.entity) ≡ is_named_by (octets_of_each l.entries) (entity_as l.entity)
