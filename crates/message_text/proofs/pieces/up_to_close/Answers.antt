use Rattle.std.proofs.Common.{◌≡◌, take, sym, ap, ◌∙◌, rules, tests}
use Rattle.std.proofs.lemmas.Iterator.{YieldsList-from_slice}
use Rattle.std.proofs.lemmas.Iterator.Search.{position_from_yields_List}
use Rattle.message_text.specs.Addresses.{closes_angle}
use Rattle.message_text.specs.declared.marks.Marked.{Marked}
use Rattle.message_text.proofs.PieceLemmas.{before_first-none, first_place, place_is}
use Rattle.message_text.proofs.pieces.up_to_close.Goals as goal

pub returns-in-Some : goal.returns-in-Some
returns-in-Some c =
    let inside = c.args.inside.now in
    let test = λ (m : Marked). closes_angle m.mark in
    let first : c.position.result ≡ first_place test inside =
    position_from_yields_List test _ _ c.position.result c.position.ensures.ran (YieldsList-from_slice inside cc) (λ x b q k. search (rules, tests)) in
    ap (λ n. take n inside) (sym (place_is test inside c.in-Some.close (sym c.in-Some.is ∙ first)))

pub returns-in-None : goal.returns-in-None
returns-in-None c =
    let inside = c.args.inside.now in
    let test = λ (m : Marked). closes_angle m.mark in
    let first : c.position.result ≡ first_place test inside =
    position_from_yields_List test _ _ c.position.result c.position.ensures.ran (YieldsList-from_slice inside cc) (λ x b q k. search (rules, tests)) in
    sym (before_first-none test inside (sym c.in-None.is ∙ first))
