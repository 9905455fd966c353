-- The meaning of how commands of the program ended.
use Rattle.sieve_delivery.specs.Ending.{Ending, goes_on, returned, stopped, failed}
use Rattle.sieve_delivery.specs.State.{RunState}
use Rattle.sieve_delivery.specs.declared.ending.Ending as endings
use Rattle.sieve_delivery.specs.declared.ending.Ending.TheVariants.{GoesOn, Returned, Stopped, Failed}

abbrev pub ending_by : endings.Ending → RunState → Ending
ending_by GoesOn state = goes_on state
ending_by Returned state = returned state
ending_by Stopped state = stopped state
ending_by (Failed error) state = failed error state
