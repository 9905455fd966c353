use Rattle.std.proofs.Common.{◌≡◌, ◌+◌, take, drop, sym, ap, ◌∙◌, rules, tests}
use Rattle.std.proofs.lemmas.Iterator.{YieldsList-from_slice}
use Rattle.std.proofs.lemmas.Iterator.Search.{position_from_yields_List}
use Rattle.std.proofs.lemmas.List.{take_rest}
use Rattle.message_text.proofs.PieceLemmas.{first_place, none_passes, place_is, some_passes}
use Rattle.mime_text.specs.ContentType.{is_sign}
use Rattle.mime_text.proofs.content_type.parted.Goals as goal

pub returns-in-None-clause-none : goal.returns-in-None-clause-none
returns-in-None-clause-none c =
    let marks = c.args.marks.now in
    let test = is_sign c.args.sign in
    let first : c.position.result ≡ first_place test marks =
    position_from_yields_List test _ _ c.position.result c.position.ensures.ran (YieldsList-from_slice marks cc) (λ x b q k. search (rules, tests)) in
    none_passes test marks (sym c.in-None.is ∙ first)

pub returns-in-Some-clause-some : goal.returns-in-Some-clause-some
returns-in-Some-clause-some c =
    let marks = c.args.marks.now in
    let test = is_sign c.args.sign in
    let first : c.position.result ≡ first_place test marks =
    position_from_yields_List test _ _ c.position.result c.position.ensures.ran (YieldsList-from_slice marks cc) (λ x b q k. search (rules, tests)) in
    some_passes test marks c.in-Some.place (sym c.in-Some.is ∙ first)

pub returns-in-Some-clause-front : goal.returns-in-Some-clause-front
returns-in-Some-clause-front c =
    let marks = c.args.marks.now in
    let test = is_sign c.args.sign in
    let first : c.position.result ≡ first_place test marks =
    position_from_yields_List test _ _ c.position.result c.position.ensures.ran (YieldsList-from_slice marks cc) (λ x b q k. search (rules, tests)) in
    ap (λ n. take n marks) (sym (place_is test marks c.in-Some.place (sym c.in-Some.is ∙ first)))

pub returns-in-Some-clause-back : goal.returns-in-Some-clause-back
returns-in-Some-clause-back c =
    let marks = c.args.marks.now in
    let test = is_sign c.args.sign in
    let first : c.position.result ≡ first_place test marks =
    position_from_yields_List test _ _ c.position.result c.position.ensures.ran (YieldsList-from_slice marks cc) (λ x b q k. search (rules, tests)) in
    take_rest marks (c.in-Some.place + 1) ∙ ap (λ n. drop (n + 1) marks) (sym (place_is test marks c.in-Some.place (sym c.in-Some.is ∙ first)))
