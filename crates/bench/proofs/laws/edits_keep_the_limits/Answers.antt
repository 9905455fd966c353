use Rattle.bench.specs.Content.{new_content}
use Rattle.bench.proofs.Kept.{new_in_order}
use Rattle.bench.proofs.Within.{new_within, stays_within}
use Rattle.bench.proofs.laws.edits_keep_the_limits.Goals as goal

pub returns : goal.returns
returns c = λ profile edits. stays_within (new_content profile) edits (new_in_order profile) (new_within profile)
