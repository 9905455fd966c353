use Rattle.std.proofs.Common.{◌≡◌, ◌<◌, ◌&&◌, length, sym, ap, ◌∙◌, arith, rules, tests}
use Rattle.std.specs.List.{list_all}
use Rattle.std.proofs.lemmas.Bool.{eqb-false, lt-ltb}
use Rattle.std.proofs.lemmas.Iterator.{YieldsList-from_slice}
use Rattle.std.proofs.lemmas.Iterator.Search.{all_from_yields_List}
use Rattle.octets.specs.Octet.{is_visible}
use Rattle.message_text.proofs.fields.is_name.Goals as goal

pub returns-then-not-is_empty : goal.returns-then-not-is_empty
returns-then-not-is_empty c =
    let text = c.args.text.now in
    let each : c.all.result ≡ list_all is_visible text =
    all_from_yields_List is_visible _ _ c.all.result c.all.ensures.ran (YieldsList-from_slice text cc) (λ x b q k. search (rules, tests)) in
    let some : 0 < length text = grind (arith, eqb-false) in
    each ∙ sym (ap (λ b. b && list_all is_visible text) (lt-ltb 0 (length text) some))
