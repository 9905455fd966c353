use Rattle.std.proofs.Common.{◌++◌, [], ◌∷◌, List, ℕ, get_or, sym, ap, ◌∙◌, arith}
use Rattle.std.proofs.lemmas.List.{append-nil}
use Rattle.mime_text.specs.Base64.{first_octet}
use Rattle.mime_text.proofs.Digits.{last_none, last_three, last_two}
use Rattle.mime_text.proofs.base64.push_last.Goals as goal

pub returns-in_ok-push-in-len2 : goal.returns-in_ok-push-in-len2
returns-in_ok-push-in-len2 c =
    let ds = c.args.digits.now in
    c.in_ok-push-in-len2.ensures.items ∙ ap (λ (l : List ℕ). c.args.octets.now.items ++ l) (ap (λ o. o ∷ []) c.first_octet.ensures ∙ sym (last_two ds (omega arith) (omega arith)))

pub returns-in_ok-extend_from_slice-in-len3 : goal.returns-in_ok-extend_from_slice-in-len3
returns-in_ok-extend_from_slice-in-len3 c =
    let ds = c.args.digits.now in
    c.in_ok-extend_from_slice-in-len3.ensures.items
    ∙ ap (λ (l : List ℕ). c.args.octets.now.items ++ l) (ap (λ o. o ∷ c.second_octet.result ∷ []) c.first_octet-in-len3.ensures ∙ ap (λ o. first_octet (get_or ds 0 0) (get_or ds 1 0) ∷ o ∷ []) c.second_octet.ensures ∙ sym (last_three ds (omega arith) (omega arith)))

pub returns-in_default : goal.returns-in_default
returns-in_default c = sym (append-nil c.args.octets.now.items) ∙ ap (λ (l : List ℕ). c.args.octets.now.items ++ l) (sym (last_none c.args.digits.now (omega arith)))
