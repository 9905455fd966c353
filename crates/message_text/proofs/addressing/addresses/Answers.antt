use Rattle.std.proofs.Common.{◌++◌, List, length, drop, sym, ap, ◌∙◌, rules, tests}
use Rattle.std.specs.List.{filter_map}
use Rattle.std.proofs.lemmas.List.{length_push}
use Rattle.std.proofs.lemmas.Iterator.Consumers.{YieldsList-at, YieldsList-end, YieldsList-turn}
use Rattle.std.proofs.lemmas.Iterator.Splits.{YieldsList-from_slice_split}
use Rattle.message_text.specs.Addresses.{AddrSpec, address_in, separates}
use Rattle.message_text.proofs.AddressLemmas.{addresses-end, addresses-first, addresses-more, pieces_of}
use Rattle.message_text.proofs.addressing.addresses.Goals as goal

pub loop-piece-init : goal.loop-piece-init
loop-piece-init c =
    let value = c.args.value.now in
    ap (λ (found : List AddrSpec). found ++ filter_map address_in (pieces_of value)) c.new-found.ensures.items ∙ addresses-first value

pub loop-piece-preserved : goal.loop-piece-preserved
loop-piece-preserved c =
    let value = c.args.value.now in
    let split = c.split-piece-items.ensures in
    let cut = split.rest ∙ c.deref.ensures.value ∙ c.in_ok-marks.ensures in
    let turn = YieldsList-turn (YieldsList-at c.into_iter-piece-iterator.ensures.into_iter_gives (YieldsList-from_slice_split _ separates _ cut split.done split.closure (λ x b q k. search (rules, tests)))) c.loop-piece.yielded _ c.loop-piece.yielded_by _ _ c.in-Some.piece c.in-Some.is c.next.ensures.steps in
    let more = addresses-more c.loop-piece.found.items c.push_address.new.found.items _ (pieces_of value) (length c.loop-piece.yielded) c.in-Some.piece.now turn.0 turn.1 c.in_ok-push_address.ensures c.loop-piece.invariant in
    ap (λ n. c.push_address.new.found.items ++ filter_map address_in (drop n (pieces_of value))) (length_push c.loop-piece.yielded c.in-Some.piece) ∙ more

pub returns : goal.returns
returns c =
    let value = c.args.value.now in
    let split = c.split-piece-items.ensures in
    let cut = split.rest ∙ c.deref.ensures.value ∙ c.in_ok-marks.ensures in
    let end = YieldsList-end (YieldsList-at c.into_iter-piece-iterator.ensures.into_iter_gives (YieldsList-from_slice_split _ separates _ cut split.done split.closure (λ x b q k. search (rules, tests)))) c.loop-piece.yielded _ c.loop-piece.yielded_by _ _ c.in-None.is c.next.ensures.steps in
    addresses-end c.loop-piece.found.items _ (pieces_of value) (length c.loop-piece.yielded) (sym end.1) c.loop-piece.invariant
