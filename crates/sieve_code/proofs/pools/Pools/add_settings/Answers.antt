use Rattle.std.proofs.Common.{List, Option}
use Rattle.std.specs.Option.{option_map}
use Rattle.sieve_variables.specs.Part.{Part}
use Rattle.sieve_code.specs.Pool.{Pool, given_list, given_string}
use Rattle.sieve_code.proofs.Keeping.{kept_two}
use Rattle.sieve_code.proofs.pools.Pools.add_settings.Goals as goal

pub returns : goal.returns
returns c =
    let s = c.args.settings in
    kept_two (λ (f : Option (List (List Part))) (u : Option (List Part)). record { flags = f; copy = s.copy; create = s.create; special_use = u }) _ _ _
    (λ (p : Pool). given_list p c.in_ok-flags.flags) (λ (p : Pool). given_string p c.in_ok-special_use.special_use) (option_map (λ given. given.items) s.flags) s.special_use
    c.in_ok-flags.ensures c.in_ok-special_use.ensures
