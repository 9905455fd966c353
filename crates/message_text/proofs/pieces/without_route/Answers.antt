use Rattle.std.proofs.Common.{◌≡◌, sym, ◌∙◌, rules, tests}
use Rattle.std.proofs.lemmas.Iterator.{YieldsList-from_slice}
use Rattle.std.proofs.lemmas.Iterator.Search.{position_from_yields_List}
use Rattle.octets.specs.Octet.{octet_of}
use Rattle.message_text.specs.Addresses.{is_free}
use Rattle.message_text.proofs.PieceLemmas.{first_place}
use Rattle.message_text.proofs.RouteLemmas.{route_dropped, route_kept}
use Rattle.message_text.proofs.pieces.without_route.Goals as goal

pub returns-in-Some : goal.returns-in-Some
returns-in-Some c =
    let inside = c.args.inside.now in
    let test = is_free (octet_of ":") in
    let first : c.position.result ≡ first_place test inside =
    position_from_yields_List test _ _ c.position.result c.position.ensures.ran (YieldsList-from_slice inside cc) (λ x b q k. search (rules, tests)) in
    route_dropped inside c.in-Some.colon (sym c.begins_route.ensures ∙ c.if-not-begins_route.false) (sym c.in-Some.is ∙ first)

pub returns-in-None : goal.returns-in-None
returns-in-None c =
    let inside = c.args.inside.now in
    let test = is_free (octet_of ":") in
    let first : c.position.result ≡ first_place test inside =
    position_from_yields_List test _ _ c.position.result c.position.ensures.ran (YieldsList-from_slice inside cc) (λ x b q k. search (rules, tests)) in
    route_kept inside (sym c.in-None.is ∙ first)
