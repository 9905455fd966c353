use Rattle.std.proofs.Common.{◌≡◌, map, drop}
use Rattle.sieve_syntax.specs.view.Tree.{text_of}
use Rattle.sieve_check.specs.Scope.{assigning_texts}
use Rattle.sieve_check.proofs.scope.Scope.assign_texts.Given as goal

abbrev pub invariant-loop-text : goal.invariant-loop-text
invariant-loop-text l = assigning_texts l.self (map text_of (drop l.text-index l.texts)) ≡ assigning_texts l.fn.self (map text_of l.texts)
