use Rattle.std.proofs.Common.{◌≡◌, ◌++◌, take, drop}
use Rattle.std.specs.Option.{option_map}
use Rattle.sieve_variables.specs.Scan.{before_brace}
use Rattle.sieve_variables.proofs.references.before_brace.Given as goal

-- Where `before_brace` finds octets in the rest, it finds those so far and these in the text. Where
-- it finds nothing there, it finds nothing in the text.
abbrev pub invariant-loop-i : goal.invariant-loop-i
invariant-loop-i l = option_map (λ inside. take l.i l.text ++ inside) (before_brace (drop l.i l.text)) ≡ before_brace l.text
