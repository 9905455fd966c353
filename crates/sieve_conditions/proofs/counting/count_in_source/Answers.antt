use Rattle.sieve_conditions.proofs.counting.count_in_source.Goals as goal

pub returns-in-Date-clause-count : goal.returns-in-Date-clause-count
returns-in-Date-clause-count c = rw c.in-Date.is c.count_date.ensures
