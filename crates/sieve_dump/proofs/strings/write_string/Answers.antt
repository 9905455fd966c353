use Rattle.std.proofs.Common.{◌≤◌, ◌++◌, length, ap, arith}
use Rattle.devices.proofs.Writing.{first_failed, then_last, writes_as}
use Rattle.sieve_dump.proofs.Dumping.{string_front, string_none}
use Rattle.sieve_dump.proofs.strings.write_string.Goals as goal

pub returns-in_err-write_part-in-len1-up : goal.returns-in_err-write_part-in-len1-up
returns-in_err-write_part-in-len1-up g c =
    first_failed _ _ _ _ _ _ _ _ (string_front c.args.front.now c.args.parts.now c.part-item.result c.in-len1-up.len_at_least c.part-item.is)
    c.from_residual.ensures.0 c.in_err-write_part-in-len1-up.ensures

pub returns-in-empty : goal.returns-in-empty
returns-in-empty g c =
    let none : length c.args.parts.now ≤ 0 = omega arith in
    writes_as _ _ _ _ _ _ _ (ap (λ t. c.args.front.now ++ t) (string_none c.args.parts.now none)) c.write_pieces.ensures

pub returns-in_ok-write_part-in-len1-up : goal.returns-in_ok-write_part-in-len1-up
returns-in_ok-write_part-in-len1-up g c =
    then_last _ _ _ _ _ _ _ _ _ (string_front c.args.front.now c.args.parts.now c.part-item.result c.in-len1-up.len_at_least c.part-item.is)
    c.in_ok-write_part-in-len1-up.ensures c.write_marked_parts.ensures
