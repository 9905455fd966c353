use Rattle.std.proofs.Common.{◌≡◌, map, drop}
use Rattle.sieve_syntax.specs.view.Tree.{text_of}
use Rattle.sieve_check.specs.Breach.{breaches_in}
use Rattle.sieve_check.specs.Element.{text_elements}
use Rattle.sieve_check.specs.view.Context.{context_as}
use Rattle.sieve_check.proofs.arguments.check_texts.Given as goal

-- the breaches of the strings that are left are all that there are
abbrev pub invariant-loop-text : goal.invariant-loop-text
invariant-loop-text l = breaches_in (text_elements (context_as l.context) l.role (map text_of (drop l.text-index l.texts))) ≡ breaches_in (text_elements (context_as l.context) l.role (map text_of l.texts))
