use Rattle.devices.proofs.Writing.{first_failed, then_last, wrote_both, wrote_then_front}
use Rattle.sieve_dump.proofs.Dumping.{list_whole}
use Rattle.sieve_dump.proofs.strings.write_list.Goals as goal

pub returns-in_err-write_strings : goal.returns-in_err-write_strings
returns-in_err-write_strings g c =
    first_failed _ _ _ _ _ _ _ _ (list_whole c.args.front.now c.args.strings.now) c.from_residual-in_err-write_strings.ensures.0
    (wrote_then_front _ _ _ _ _ c.args.front.now _ c.in_ok-write_out.ensures c.in_err-write_strings.ensures)

pub returns : goal.returns
returns g c =
    then_last _ _ _ _ _ _ _ _ _ (list_whole c.args.front.now c.args.strings.now)
    (wrote_both _ _ _ _ _ c.args.front.now _ c.in_ok-write_out.ensures c.in_ok-write_strings.ensures) c.write_out-2.ensures
