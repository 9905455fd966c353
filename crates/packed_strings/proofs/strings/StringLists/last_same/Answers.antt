use Rattle.std.proofs.Common.{◌<◌, length, rules, ap, sym, ◌∙◌}
use Rattle.packed_strings.specs.Joined.{Lists, list_in, lists_plus}
use Rattle.packed_strings.proofs.Joining.{list_stays}
use Rattle.packed_strings.proofs.strings.StringLists.last_same.Goals as goal

pub returns-then-are_these : goal.returns-then-are_these
returns-then-are_these c = λ more.
    let i = c.in_ok-last.last in
    let lists : Lists = record { strings = c.self.inside.strings; ends = c.self.inside.ends.items } in
    let below : i < length lists.ends = search rules in
    ap (λ (l : Lists). list_in (lists_plus l more) i) (sym c.self.view_is)
    ∙ list_stays lists more i c.self.invariant below
    ∙ ap (λ (l : Lists). list_in l i) c.self.view_is
    ∙ sym c.list.ensures
    ∙ c.are_these.ensures c.if-are_these.true
