use Rattle.std.proofs.Common.{◌≡◌, ◌++◌, drop, map}
use Rattle.sieve_syntax.specs.view.Tree.{text_of}
use Rattle.sieve_check.specs.Cut.{parts_in}
use Rattle.sieve_check.specs.view.Context.{context_as}
use Rattle.sieve_check.proofs.cutting.cut_texts.Given as goal

-- the parts of the strings so far, and then those of the strings that are left, are those of all
abbrev pub invariant-loop-text : goal.invariant-loop-text
invariant-loop-text l = l.cut.items ++ map (λ t. parts_in (context_as l.context) l.role t.string) (map text_of (drop l.text-index l.texts)) ≡ map (λ t. parts_in (context_as l.context) l.role t.string) (map text_of l.texts)
