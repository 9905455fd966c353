use Rattle.std.proofs.Common.{◌≡◌, drop, map}
use Rattle.sieve_run.specs.Run.{is_script}
use Rattle.sieve_run.proofs.including.is_including.Given as goal

-- the name is among the names that are left exactly if it is among all names
abbrev pub invariant-loop-other : goal.invariant-loop-other
invariant-loop-other l = is_script l.fn.name (map (λ other. other.now) (drop l.other-index l.fn.names)) ≡ is_script l.fn.name (map (λ other. other.now) l.fn.names)
