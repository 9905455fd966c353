use Rattle.std.proofs.Common.{◌==◌, length, ap, ◌∙◌}
use Rattle.match_text.specs.view.Digits.{digits_cmp, without_zeros}
use Rattle.match_text.proofs.Numerals.{digits_cmp-numbers}
use Rattle.match_text.proofs.number.number_cmp.Goals as goal

pub returns-in-false-false : goal.returns-in-false-false
returns-in-false-false c =
    let first = c.without_zeros.ensures ∙ ap without_zeros c.first_digits-a.ensures in
    let second = c.without_zeros-in-false-false.ensures ∙ ap without_zeros c.first_digits-b.ensures in
    c.digits_cmp.ensures ∙ (λ i. digits_cmp (first i) (second i))
    ∙ digits_cmp-numbers c.args.a.now c.args.b.now
    (c.in-false-false.ensures ∙ ap (λ l. length l == 0) c.first_digits-a.ensures)
    (c.in-false-false.ensures' ∙ ap (λ l. length l == 0) c.first_digits-b.ensures)
