use Rattle.std.proofs.Common.{◌≡◌, ◌+◌, ◌==◌, false, cond, length, take, drop, sym, ap, ◌∙◌, rules, tests}
use Rattle.std.specs.List.{after_first, before_first, list_any}
use Rattle.std.proofs.lemmas.Iterator.{YieldsList-from_slice}
use Rattle.std.proofs.lemmas.Iterator.Search.{position_from_yields_List}
use Rattle.std.proofs.lemmas.List.{take_rest}
use Rattle.message_text.proofs.PieceLemmas.{first_place, none_passes, place_is, some_passes}
use Rattle.mime_text.specs.Wanted.{any_type, is_slash, of_both, of_main}
use Rattle.mime_text.proofs.wanted.WantedType.of_entry.Goals as goal

pub returns-in-Some : goal.returns-in-Some
returns-in-Some c =
    let entry = c.args.entry.now in
    let slash = c.in-Some.slash in
    let first : c.position.result ≡ first_place is_slash entry =
    position_from_yields_List is_slash _ _ c.position.result c.position.ensures.ran (YieldsList-from_slice entry cc) (λ x b q k. search (rules, tests)) in
    let place = place_is is_slash entry slash (sym c.in-Some.is ∙ first) in
    let filled : (length entry == 0) ≡ false = sym c.is_empty.ensures ∙ c.if-is_empty.false in
    c.both.ensures
    ∙ ap (of_both (take slash entry)) (take_rest entry (slash + 1) ∙ ap (λ n. drop (n + 1) entry) (sym place))
    ∙ ap (λ n. of_both (take n entry) (after_first is_slash entry)) (sym place)
    ∙ sym (ap (λ b. cond b any_type (cond (list_any is_slash entry) (of_both (before_first is_slash entry) (after_first is_slash entry)) (of_main entry))) filled
    ∙ ap (λ b. cond b (of_both (before_first is_slash entry) (after_first is_slash entry)) (of_main entry)) (some_passes is_slash entry slash (sym c.in-Some.is ∙ first)))

pub returns-in-None : goal.returns-in-None
returns-in-None c =
    let entry = c.args.entry.now in
    let first : c.position.result ≡ first_place is_slash entry =
    position_from_yields_List is_slash _ _ c.position.result c.position.ensures.ran (YieldsList-from_slice entry cc) (λ x b q k. search (rules, tests)) in
    let filled : (length entry == 0) ≡ false = sym c.is_empty.ensures ∙ c.if-is_empty.false in
    sym (ap (λ b. cond b any_type (cond (list_any is_slash entry) (of_both (before_first is_slash entry) (after_first is_slash entry)) (of_main entry))) filled
    ∙ ap (λ b. cond b (of_both (before_first is_slash entry) (after_first is_slash entry)) (of_main entry)) (none_passes is_slash entry (sym c.in-None.is ∙ first)))
