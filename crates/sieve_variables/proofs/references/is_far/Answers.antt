use Rattle.std.proofs.Common.{nat_lt, sym, ◌∙◌, ap}
use Rattle.sieve_variables.proofs.Words.{far_no, far_yes}
use Rattle.sieve_variables.proofs.references.is_far.Goals as goal

pub returns-then-not-is_number : goal.returns-then-not-is_number
returns-then-not-is_number c =
    far_no c.args.inside.now (sym c.is_namespaced.ensures ∙ c.if-is_namespaced.false) (cc)

pub returns : goal.returns
returns c =
    ap (nat_lt 99) c.index_of.ensures
    ∙ far_yes c.args.inside.now (sym c.is_namespaced.ensures ∙ c.if-is_namespaced.false) (cc)
