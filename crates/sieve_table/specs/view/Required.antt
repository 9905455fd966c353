-- The model of the program's set of required capabilities.
use Rattle.std.specs.Prelude.{false, slice_index_or}
use denote.Enum.Declared.{tag_of}
use Rattle.sieve_table.specs.Required.{Required}
use Rattle.sieve_table.specs.contracts.capability.Capability.{the_type}
use Rattle.sieve_table.specs.declared.required.Required as requireds

unfoldable pub required_as : requireds.Required → Required
required_as r = λ capability. slice_index_or r.named (tag_of the_type capability) false
