use Rattle.std.proofs.Common.{◌≡◌, Bor, List, [], ◌∷◌, Some, map, length, take, drop, ◌-◌, sym, ap, ◌∙◌, arith}
use Rattle.std.specs.Option.{option_map}
use Rattle.mime_text.specs.ContentType.{named_of, parameters_of}
use Rattle.mime_text.specs.declared.marks.ValueMark.{ValueMark}
use Rattle.mime_text.specs.view.ContentTypes.{both_as, named_as, over}
use Rattle.mime_text.proofs.Parameters.{none_first, nothing_left, over-nothing, pieces_first, some_first}
use Rattle.mime_text.proofs.content_type.named_of.Goals as goal

pub returns-in_default-2 : goal.returns-in_default-2
returns-in_default-2 c =
    let left = c.loop-left.left.now in
    sym (none_first _ _ (λ ps. over (named_as c.loop-left.named) (named_of ps)) (sym c.in_ok-name.ensures ∙ ap both_as c.in_default-2.is))
    ∙ ap (λ pieces. option_map (λ ps. over (named_as c.loop-left.named) (named_of ps)) (parameters_of pieces)) (sym (pieces_first left _ (omega arith)))
    ∙ c.loop-left.invariant

pub loop-left-preserved : goal.loop-left-preserved
loop-left-preserved c =
    let left = c.loop-left.left.now in
    let k = named_as c.loop-left.named in
    let value = c.in-Some.value.items in
    let with : named_as c.with-named.result ≡ over k (named_of ((c.in-Some.name.items, value) ∷ [])) = c.with-named.ensures ∙ ap (λ name. over k (named_of ((name, value) ∷ []))) c.deref.ensures.value in
    ap (λ found. option_map (λ ps. over found (named_of ps)) (parameters_of (map (λ (piece : Bor (List ValueMark)). piece.now) (take (length left - 1) (drop 1 left))))) with
    ∙ sym (some_first _ _ k (c.in-Some.name.items, value) (sym c.in_ok-name.ensures ∙ ap both_as c.in-Some.is))
    ∙ ap (λ pieces. option_map (λ ps. over k (named_of ps)) (parameters_of pieces)) (sym (pieces_first left _ (omega arith)))
    ∙ c.loop-left.invariant

pub returns : goal.returns
returns c =
    ap Some (sym (over-nothing (named_as c.loop-left.named)))
    ∙ ap (option_map (λ ps. over (named_as c.loop-left.named) (named_of ps))) (sym (nothing_left c.loop-left.left.now (omega arith)))
    ∙ c.loop-left.invariant
