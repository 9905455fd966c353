use Rattle.std.proofs.Common.{Some, None, ◌≡◌, ◌∙◌, sym, ap}
use Rattle.sieve_script.specs.view.Tags.{tags_as}
use Rattle.sieve_script.proofs.ByKind.{kept, noted}
use Rattle.std.specs.Prelude.{if◌then◌else◌}
use Rattle.sieve_table.specs.Table.{same_kind, tag_row}
use Rattle.sieve_script.proofs.tags.Tags.with.Goals as goal

pub returns-in-Some : goal.returns-in-Some
returns-in-Some c =
    let its : c.row-kind.result.kind ≡ (tag_row c.args.tag).kind = ap (λ r. r.kind) c.row-kind.ensures in
    let there : tags_as c.args.self (tag_row c.args.tag).kind ≡ Some _ = ap (tags_as c.args.self) (sym its) ∙ sym c.of.ensures ∙ c.in-Some.is in
    λ i k. kept (tags_as c.args.self) (tag_row c.args.tag).kind c.args.tag _ there k i

pub returns-in-None : goal.returns-in-None
returns-in-None c =
    let its : c.row-kind.result.kind ≡ (tag_row c.args.tag).kind = ap (λ r. r.kind) c.row-kind.ensures in
    let there : tags_as c.args.self (tag_row c.args.tag).kind ≡ None = ap (tags_as c.args.self) (sym its) ∙ sym c.of.ensures ∙ c.in-None.is in
    c.put.ensures ∙ (λ i k. ((λ j. if same_kind (its j) k then Some c.args.tag else tags_as c.args.self k) ∙ noted (tags_as c.args.self) (tag_row c.args.tag).kind c.args.tag there k) i)
