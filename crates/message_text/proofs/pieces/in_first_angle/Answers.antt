use Rattle.std.proofs.Common.{◌≡◌, sym, ◌∙◌, rules, tests}
use Rattle.std.proofs.lemmas.Iterator.{YieldsList-from_slice}
use Rattle.std.proofs.lemmas.Iterator.Search.{position_from_yields_List}
use Rattle.message_text.specs.Addresses.{opens_angle}
use Rattle.message_text.specs.declared.marks.Marked.{Marked}
use Rattle.message_text.proofs.PieceLemmas.{first_place}
use Rattle.message_text.proofs.RouteLemmas.{angle_inside, no_angle}
use Rattle.message_text.proofs.pieces.in_first_angle.Goals as goal

pub returns-in_default : goal.returns-in_default
returns-in_default c =
    let piece = c.args.piece.now in
    let test = λ (m : Marked). opens_angle m.mark in
    let first : c.position.result ≡ first_place test piece =
    position_from_yields_List test _ _ c.position.result c.position.ensures.ran (YieldsList-from_slice piece cc) (λ x b q k. search (rules, tests)) in
    no_angle piece (sym c.in_default.is ∙ first)

pub returns : goal.returns
returns c =
    let piece = c.args.piece.now in
    let test = λ (m : Marked). opens_angle m.mark in
    let first : c.position.result ≡ first_place test piece =
    position_from_yields_List test _ _ c.position.result c.position.ensures.ran (YieldsList-from_slice piece cc) (λ x b q k. search (rules, tests)) in
    angle_inside piece c.in-Some.open _ _ (sym c.in-Some.is ∙ first) c.up_to_close.ensures c.without_route.ensures
