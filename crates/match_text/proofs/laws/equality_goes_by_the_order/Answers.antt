use Rattle.std.proofs.lemmas.Cmp.{eq_by_cmp_equiv}
use Rattle.match_text.proofs.Ordered.{are_equal-ties, casemap_tied, octet_tied, order_of-total}
use Rattle.match_text.proofs.laws.equality_goes_by_the_order.Goals as goal

pub returns-clause-equivalence : goal.returns-clause-equivalence
returns-clause-equivalence c = λ collation. eq_by_cmp_equiv (order_of-total collation)

pub returns-clause-equal : goal.returns-clause-equal
returns-clause-equal c = are_equal-ties

pub returns-clause-octet : goal.returns-clause-octet
returns-clause-octet c = octet_tied

pub returns-clause-casemap : goal.returns-clause-casemap
returns-clause-casemap c = casemap_tied
