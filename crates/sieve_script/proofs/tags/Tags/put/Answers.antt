use Rattle.std.proofs.Common.{◌<◌, length, rules}
use denote.Enum.Declared.{tag_of, variants}
use denote.Enum.Enum.{tag_below}
use Rattle.sieve_table.specs.contracts.row.TagKind.{the_type}
use Rattle.sieve_script.specs.view.Tags.{tags_as}
use Rattle.sieve_script.proofs.ByKind.{set_at}
use Rattle.sieve_script.proofs.tags.Tags.put.Goals as goal

pub returns : goal.returns
unfolding tags_as
returns c =
    let known : tag_of the_type c.args.kind < length c.args.self.found = search (rules, tag_below (variants the_type) (the_type.to c.args.kind)) in
    λ i other. set_at c.args.self.found (tag_of the_type c.args.kind) (tag_of the_type other) c.args.tag known i
