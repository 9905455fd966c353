use Rattle.std.proofs.Common.{◌≡◌, ◌-◌, ◌++◌, [], ◌∷◌, cond, length, take, drop, get_or, List, ℕ, sym, ap, ◌∙◌, append_assoc, arith}
use Rattle.std.specs.List.{prefix_len}
use Rattle.std.proofs.lemmas.Bool.Decides.{nat_tests}
use Rattle.std.proofs.lemmas.List.Sums.{prefix_len-le-length}
use Rattle.octets.specs.Octet.{is_blank}
use Rattle.mime_text.specs.QuotedPrintable.{is_at_end, without_padding}
use Rattle.mime_text.proofs.Quoting.{blanks_front, first_stays, stretch}
use Rattle.mime_text.proofs.quoted.push_stretch.Goals as goal

pub split_at-requires : goal.split_at-requires
split_at-requires c = omega (arith, c.blank_len.ensures, prefix_len-le-length is_blank c.args.text.now)

pub returns-then-is_empty-clause-kept : goal.returns-then-is_empty-clause-kept
returns-then-is_empty-clause-kept c =
    let text = c.args.text.now in
    let old = c.args.kept.now.items in
    let none : prefix_len is_blank text ≡ 0 = grind (arith, nat_tests, c.blank_len.ensures, c.split_at.ensures.front_len, c.is_empty.ensures) in
    ap (λ (x : List ℕ). x ++ without_padding (take (length text - 1) (drop 1 text))) c.in_ok-push.ensures.items
    ∙ append_assoc old (get_or text 0 0 ∷ []) (without_padding (take (length text - 1) (drop 1 text)))
    ∙ ap (λ (x : List ℕ). old ++ x) (sym (first_stays text c.requires none))

pub returns-clause-kept : goal.returns-clause-kept
returns-clause-kept c =
    let text = c.args.text.now in
    let old = c.args.kept.now.items in
    let n = prefix_len is_blank text in
    let front : c.split_at.result.0.now ≡ take n text = c.split_at.ensures.front ∙ ap (λ m. take m text) c.blank_len.ensures in
    let back : c.split_at.result.1.now ≡ drop n text = c.split_at.ensures.back ∙ ap (λ m. drop m text) c.blank_len.ensures in
    ap (λ (x : List ℕ). x ++ without_padding c.split_at.result.1.now) (c.in_ok-push_blanks.ensures ∙ ap (λ (x : List ℕ). old ++ cond (is_at_end x) [] c.split_at.result.0.now) back ∙ ap (λ (x : List ℕ). old ++ cond (is_at_end (drop n text)) [] x) front)
    ∙ ap (λ (x : List ℕ). (old ++ stretch text) ++ without_padding x) back
    ∙ append_assoc old (stretch text) (without_padding (drop n text))
    ∙ ap (λ (x : List ℕ). old ++ x) (sym (blanks_front text))
