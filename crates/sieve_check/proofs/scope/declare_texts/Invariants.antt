use Rattle.std.proofs.Common.{◌≡◌, map, drop}
use Rattle.sieve_syntax.specs.view.Tree.{text_of}
use Rattle.sieve_check.specs.Scope.{declaring_texts}
use Rattle.sieve_check.proofs.scope.declare_texts.Given as goal

abbrev pub invariant-loop-text : goal.invariant-loop-text
invariant-loop-text l = declaring_texts l.declared (map text_of (drop l.text-index l.texts)) ≡ declaring_texts l.fn.declared (map text_of l.texts)
