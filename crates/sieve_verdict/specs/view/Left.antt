-- The rest of a text while it is compared.
use Rattle.std.specs.Prelude.{ℕ, Bool, false, List, Option, None, Some}
use Rattle.sieve_verdict.specs.Lines.{says}

-- Whether the text after a line has the other lines. It has none if the line wasn't there.
abbrev pub left_says : Option (List ℕ) → List (List ℕ) → Bool
left_says None wanted = false
left_says (Some left) wanted = says left wanted
