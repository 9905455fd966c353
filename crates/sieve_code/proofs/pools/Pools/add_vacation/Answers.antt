use Rattle.std.proofs.Common.{ℕ}
use Rattle.std.specs.Option.{option_map}
use Rattle.sieve_script.specs.declared.reading.Vacation.{Vacation}
use Rattle.sieve_code.proofs.Keeping.{said_kept}
use Rattle.sieve_code.proofs.pools.Pools.add_vacation.Goals as goal

pub returns : goal.returns
returns c =
    let v = c.args.vacation in
    let packed : Vacation ℕ ℕ = record { reason = c.in_ok-reason.reason; days = v.days; subject = c.in_ok-subject.subject; from = c.in_ok-from.from; addresses = c.in_ok-addresses.addresses; mime = v.mime; handle = c.in_ok-handle.handle } in
    let addresses = option_map (λ given. given.items) v.addresses in
    said_kept _ _ _ _ _ _ packed v.reason v.subject v.from addresses v.handle c.in_ok-reason.ensures c.in_ok-subject.ensures c.in_ok-from.ensures c.in_ok-addresses.ensures c.in_ok-handle.ensures
