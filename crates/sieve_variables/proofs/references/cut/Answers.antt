use Rattle.std.proofs.Common.{add-one, sym, ◌∙◌, arith}
use Rattle.std.proofs.lemmas.List.{take_rest}
use Rattle.sieve_variables.proofs.Words.{cut_here, cut_nowhere}
use Rattle.sieve_variables.proofs.references.cut.Goals as goal

pub returns-then-is_dot-clause-words : goal.returns-then-is_dot-clause-words
returns-then-is_dot-clause-words c =
    rw (take_rest, add-one)
    (cut_here c.args.inside.now c.loop-i.i (omega arith) c.loop-i.invariant (sym c.is_dot.ensures ∙ c.if-is_dot.true))

pub returns-clause-words : goal.returns-clause-words
returns-clause-words c = cut_nowhere c.args.inside.now (λ k low. c.loop-i.invariant k (omega arith))
