use Rattle.std.proofs.Common.{◌<◌, length, rules}
use denote.Enum.Declared.{tag_of, variants}
use denote.Enum.Enum.{tag_below}
use Rattle.sieve_table.specs.contracts.capability.Capability.{the_type}
use Rattle.sieve_table.specs.view.Required.{required_as}
use Rattle.sieve_table.proofs.Flags.{set_at}
use Rattle.sieve_table.proofs.required.Required.with.Goals as goal

pub returns : goal.returns
unfolding required_as
returns c =
    let known : tag_of the_type c.args.capability < length c.args.self.named = search (rules, tag_below (variants the_type) (the_type.to c.args.capability)) in
    λ i other. set_at c.args.self.named (tag_of the_type c.args.capability) (tag_of the_type other) known i
