use Rattle.std.proofs.Common.{◌≤◌, length, rules}
use Rattle.devices.proofs.Writing.{first_failed, then_last, writes_as}
use Rattle.sieve_dump.proofs.Dumping.{strings_front, strings_none}
use Rattle.sieve_dump.proofs.strings.write_strings.Goals as goal

pub returns-in_err-write_string : goal.returns-in_err-write_string
returns-in_err-write_string g c =
    first_failed _ _ _ _ _ _ _ _ (strings_front c.args.front.now c.args.strings.now c.get.result.now c.get.ensures) c.from_residual.ensures.0 c.in_err-write_string.ensures

pub returns : goal.returns
returns g c =
    then_last _ _ _ _ _ _ _ _ _ (strings_front c.args.front.now c.args.strings.now c.get.result.now c.get.ensures) c.in_ok-write_string.ensures c.write_marked_strings.ensures

pub returns-then-len-eq0 : goal.returns-then-len-eq0
returns-then-len-eq0 g c =
    let none : length c.args.strings.now ≤ 0 = search rules in
    writes_as _ _ _ _ _ _ _ (strings_none c.args.front.now c.args.strings.now none) c.write_out.ensures
