use Rattle.std.proofs.Common.{◌≡◌, ◌||◌, length}
use Rattle.sieve_variables.specs.Scan.{has_far_index, has_foreign_namespace, has_namespace, has_reference}
use Rattle.sieve_variables.proofs.references.references_in.Given as goal

-- a reference of each kind was found so far, or is in the rest, exactly where the text has one
abbrev pub invariant-loop-rest : goal.invariant-loop-rest
invariant-loop-rest l = record {
  any : (l.any || has_reference l.rest) ≡ has_reference l.text;
  namespaced : (l.namespaced || has_namespace l.rest) ≡ has_namespace l.text;
  foreign : (l.foreign || has_foreign_namespace l.rest) ≡ has_foreign_namespace l.text;
  far : (l.far || has_far_index l.rest) ≡ has_far_index l.text;
}

abbrev pub decreases-loop-rest : goal.decreases-loop-rest
decreases-loop-rest l = length l.rest
