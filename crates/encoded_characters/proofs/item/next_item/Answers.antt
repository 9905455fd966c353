use Rattle.std.proofs.Common.{◌≡◌, ◌<◌, length, take, drop, sym, ◌∙◌, ap, arith}
use Rattle.std.specs.List.{list_all}
use Rattle.std.proofs.lemmas.Bool.{eqb-false, eqb-true}
use Rattle.std.proofs.lemmas.List.Folds.{length-prefix_len}
use Rattle.std.proofs.lemmas.List.Sums.{prefix_len-le-length}
use Rattle.encoded_characters.proofs.Items.{next_none, next_some, not_hex, run_all}
use Rattle.encoded_characters.specs.Sequence.{is_hex_digit}
use Rattle.encoded_characters.proofs.item.next_item.Goals as goal

pub split_at-requires : goal.split_at-requires
split_at-requires c = omega (arith, c.gap_len.ensures, prefix_len-le-length not_hex c.args.octets.now)

pub split_at-requires-2 : goal.split_at-requires-2
split_at-requires-2 c = omega (arith, c.digit_count.ensures, prefix_len-le-length is_hex_digit c.split_at.result.1.now)

pub returns-then-is_empty-clause-is : goal.returns-then-is_empty-clause-is
returns-then-is_empty-clause-is c =
    let octets = c.args.octets.now in
    let further = c.split_at.result.1.now in
    let further_is = c.split_at.ensures.back ∙ ap (λ n. drop n octets) c.gap_len.ensures in
    let ended : length c.split_at-2.result.0.now ≡ 0 = eqb-true _ 0 (sym c.is_empty.ensures ∙ c.if-is_empty.true) in
    let digits_is = c.split_at-2.ensures.front ∙ ap (λ n. take n further) c.digit_count.ensures in
    next_none octets further further_is (sym (length-prefix_len is_hex_digit further) ∙ sym (ap length digits_is) ∙ ended)

pub returns-clause-is : goal.returns-clause-is
returns-clause-is c =
    let octets = c.args.octets.now in
    let further = c.split_at.result.1.now in
    let some : 0 < length c.split_at-2.result.0.now = grind (arith, eqb-false) in
    next_some octets c.split_at.result.0.now further c.split_at-2.result.0.now c.split_at-2.result.1.now (c.split_at.ensures.front ∙ ap (λ n. take n octets) c.gap_len.ensures) (c.split_at.ensures.back ∙ ap (λ n. drop n octets) c.gap_len.ensures) (c.split_at-2.ensures.front ∙ ap (λ n. take n further) c.digit_count.ensures) (c.split_at-2.ensures.back ∙ ap (λ n. drop n further) c.digit_count.ensures) some

pub returns-clause-digits : goal.returns-clause-digits
returns-clause-digits c =
    let further = c.split_at.result.1.now in
    ap (list_all is_hex_digit) (c.split_at-2.ensures.front ∙ ap (λ n. take n further) c.digit_count.ensures) ∙ run_all is_hex_digit further
