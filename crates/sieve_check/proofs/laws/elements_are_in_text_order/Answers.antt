-- That the elements of a tree are in the order of its text is the lemma `in_text_order`.
use Rattle.sieve_check.proofs.TextOrder.{in_text_order}
use Rattle.sieve_check.proofs.laws.elements_are_in_text_order.Goals as goal

pub returns : goal.returns
returns c = in_text_order
