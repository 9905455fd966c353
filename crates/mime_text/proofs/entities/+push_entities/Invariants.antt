use Rattle.std.proofs.Common.{◌≡◌, ◌-◌, ◌++◌, map, drop}
use Rattle.mime_text.specs.Entities.{entities_by, entities_in}
use Rattle.mime_text.specs.view.Entities.{entity_as}
use Rattle.mime_text.proofs.entities.+push_entities.Given as goal

-- the entities so far and those of the texts that are left are all of them
abbrev pub invariant-loop-inner : goal.invariant-loop-inner
invariant-loop-inner l =
    map entity_as l.found.items ++ entities_by (entities_in (l.depth - 1) l.is_digest) (map (λ text. text.now) (drop l.inner-index l.inner-items)) ≡ map entity_as l.fn.found.items ++ entities_in l.depth l.in_digest l.text

abbrev pub decreases-push_entities : goal.decreases-push_entities
decreases-push_entities l = l.depth
