use Rattle.std.proofs.Common.{None, Some}
use Rattle.match_text.proofs.Numerals.{order_of-numbers}
use Rattle.match_text.proofs.laws.numbers_are_ordered_by_what_they_are.Goals as goal

pub returns-clause-infinite : goal.returns-clause-infinite
returns-clause-infinite c = λ a b n first second. order_of-numbers a b None (Some n) first second

pub returns-clause-finite : goal.returns-clause-finite
returns-clause-finite c = λ a b m n first second. order_of-numbers a b (Some m) (Some n) first second

pub returns-clause-both : goal.returns-clause-both
returns-clause-both c = λ a b first second. order_of-numbers a b None None first second
