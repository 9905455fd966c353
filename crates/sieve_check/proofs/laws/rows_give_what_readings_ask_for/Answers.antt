use Rattle.sieve_check.proofs.Asked.{commands_by_asked, commands_given, tests_by_asked, tests_given}
use Rattle.sieve_check.proofs.laws.rows_give_what_readings_ask_for.Goals as goal

pub returns-clause-tests : goal.returns-clause-tests
returns-clause-tests c = tests_given

pub returns-clause-commands : goal.returns-clause-commands
returns-clause-commands c = commands_given

pub returns-clause-tests_alone : goal.returns-clause-tests_alone
returns-clause-tests_alone c = tests_by_asked

pub returns-clause-commands_alone : goal.returns-clause-commands_alone
returns-clause-commands_alone c = commands_by_asked
