use Rattle.std.proofs.Common.{map, ap, sym, ◌∙◌}
use Rattle.packed_strings.specs.Joined.{between}
use Rattle.packed_strings.specs.view.FieldNames.{kept_hash}
use Rattle.packed_strings.proofs.Joining.{between_map}
use Rattle.packed_strings.proofs.field_names.NameLists.list.Goals as goal

pub invariant_of-result : goal.invariant_of-result
invariant_of-result c =
    let from = c.bounds-from.result.0 in let to = c.bounds-from.result.1 in
    c.between-2.ensures
    ∙ ap (between from to) (c.deref.ensures.value ∙ c.self.invariant)
    ∙ between_map kept_hash from to c.self.inside.lists.strings
    ∙ ap (map kept_hash) (sym c.between.ensures)
