use Rattle.std.proofs.Common.{◌≡◌, ◌^◌, ◌<◌, drop}
use Rattle.sieve_syntax.specs.Value.{number_from}
use Rattle.sieve_syntax.proofs.value.number_of.Given as goal

abbrev pub invariant-loop-octet : goal.invariant-loop-octet
invariant-loop-octet l = record {
  fits : l.number < 2 ^ 64;
  same : number_from l.number (drop l.octet-index l.symbol) ≡ number_from 0 l.symbol;
}
