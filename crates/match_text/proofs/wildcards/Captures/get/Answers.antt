use Rattle.std.proofs.Common.{arith}
use Rattle.std.proofs.lemmas.Grind.{elements}
use Rattle.match_text.proofs.wildcards.Captures.get.Goals as goal

pub returns-in-Some : goal.returns-in-Some
returns-in-Some c = grind (arith, elements)
