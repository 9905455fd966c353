use Rattle.std.proofs.Common.{length, ap, sym, ◌∙◌}
use Rattle.packed_strings.specs.Joined.{Lists, list_in, lists_plus}
use Rattle.packed_strings.proofs.field_names.NameLists.push.Goals as goal

pub returns-in-Ok-clause-kept : goal.returns-in-Ok-clause-kept
returns-in-Ok-clause-kept c = λ more.
    ap (λ (l : Lists). list_in (lists_plus c.put_after.new.lists more) (length l.ends)) (sym c.self.view_is) ∙ c.in-Ok.ensures.kept more
