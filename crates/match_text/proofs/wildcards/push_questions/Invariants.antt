use Rattle.std.proofs.Common.{◌≡◌, ◌++◌, drop}
use Rattle.match_text.specs.view.Segment.{questions, texts_of}
use Rattle.match_text.proofs.wildcards.push_questions.Given as goal

-- All texts are those before and the octets that each `?` takes of the value. They are the texts so
-- far, and after them the octets that each `?` left takes of the rest.
abbrev pub invariant-loop-item : goal.invariant-loop-item
invariant-loop-item l = record {
  rest : l.rest ≡ drop l.item-index l.value;
  taken : texts_of l.texts.items ++ questions (drop l.item-index l.segment) l.rest ≡ texts_of l.fn.texts.items ++ questions l.segment l.value;
}
