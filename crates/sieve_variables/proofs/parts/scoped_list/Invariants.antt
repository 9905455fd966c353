use Rattle.std.proofs.Common.{◌≡◌, ◌++◌, map}
use Rattle.sieve_variables.specs.Part.{scoped_part}
use Rattle.sieve_variables.proofs.parts.scoped_list.Given as goal

-- the scoped parts so far, and then the scoped forms of the rest, are the scoped forms of all parts
abbrev pub invariant-loop-part : goal.invariant-loop-part
invariant-loop-part l = l.scoped.items ++ map (scoped_part l.declared) l.part-iterator.rest.items ≡ map (scoped_part l.declared) l.fn.parts.items
