use Rattle.std.proofs.Common.{◌≡◌, drop, map}
use Rattle.sieve_syntax.specs.view.Tree.{text_of}
use Rattle.sieve_check.specs.Context.{requiring_texts}
use Rattle.sieve_table.specs.view.Required.{required_as}
use Rattle.sieve_check.proofs.context.requiring_texts.Given as goal

-- the capabilities required so far, and those that the rest of the strings name, are
-- those after all strings
abbrev pub invariant-loop-text : goal.invariant-loop-text
invariant-loop-text l = requiring_texts (required_as l.required) (map text_of (drop l.text-index l.texts)) ≡ requiring_texts (required_as l.fn.required) (map text_of l.texts)
