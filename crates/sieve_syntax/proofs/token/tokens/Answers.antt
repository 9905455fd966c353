use Rattle.sieve_syntax.specs.Token.{Spells}
use Rattle.sieve_syntax.proofs.Spelling.{unique, spelled_inside}
use Rattle.sieve_syntax.proofs.Finding.{ends_here}
use Rattle.sieve_syntax.proofs.token.tokens.Goals as goal

spelled : (c : goal.In_default) → Spells c.loop-token.found.items c.args.text.now
spelled c = ends_here c.args.text.now c.loop-token.found.items c.loop-token.cursor.place c.in_default.ensures c.loop-token.invariant.spelled

pub returns-clause-spelled : goal.returns-clause-spelled
returns-clause-spelled c = spelled c

pub returns-clause-inside : goal.returns-clause-inside
returns-clause-inside c = spelled_inside c.args.text.now 0 _ (spelled c)

pub returns-clause-only : goal.returns-clause-only
returns-clause-only c = λ others h. unique c.args.text.now others _ h (spelled c)
