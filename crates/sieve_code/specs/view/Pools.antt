-- The strings, questions and commands that operations name by their places.
use Rattle.sieve_code.specs.Pool.{Pool}
use Rattle.sieve_code.specs.declared.pools.Pools.{Pools}

abbrev pub pool_as : Pools → Pool
pool_as p = record { strings = p.strings; lists = p.lists; names = p.names; asks = p.asks.items; leaves = p.leaves.items }
