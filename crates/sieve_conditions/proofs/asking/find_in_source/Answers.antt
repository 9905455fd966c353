use Rattle.sieve_conditions.proofs.asking.find_in_source.Goals as goal

pub returns-in-Date-clause-found : goal.returns-in-Date-clause-found
returns-in-Date-clause-found c = rw c.in-Date.is c.find_in_date.ensures
