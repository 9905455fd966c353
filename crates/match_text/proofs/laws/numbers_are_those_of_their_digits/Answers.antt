use Rattle.match_text.proofs.Numerals.{number_of-decimal, number_of-digits, number_of-none, number_of-zero}
use Rattle.match_text.proofs.laws.numbers_are_those_of_their_digits.Goals as goal

pub returns-clause-digits : goal.returns-clause-digits
returns-clause-digits c = number_of-digits

pub returns-clause-zeros : goal.returns-clause-zeros
returns-clause-zeros c = number_of-zero

pub returns-clause-infinite : goal.returns-clause-infinite
returns-clause-infinite c = number_of-none

pub returns-clause-decimal : goal.returns-clause-decimal
returns-clause-decimal c = number_of-decimal
