use Rattle.std.proofs.Common.{refl, None, ◌∷◌, []}
use denote.Enum.Declared.{tag_of}
use Rattle.sieve_table.specs.contracts.row.TagKind.{the_type}
use Rattle.sieve_script.specs.view.Tags.{tags_as}
use Rattle.sieve_script.proofs.ByKind.{none_at}
use Rattle.sieve_script.proofs.tags.Tags.none.Goals as goal

pub returns : goal.returns
unfolding tags_as
returns c = λ i kind. none_at (None ∷ None ∷ None ∷ None ∷ None ∷ None ∷ None ∷ None ∷ None ∷ None ∷ None ∷ None ∷ None ∷ None ∷ None ∷ None ∷ None ∷ None ∷ None ∷ None ∷ None ∷ None ∷ None ∷ None ∷ None ∷ None ∷ []) (tag_of the_type kind) refl i
