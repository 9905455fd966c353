-- Steps of checking and writing UTF-8.
use Rattle.std.proofs.Common.{◌≡◌, ℕ, ◌+◌, ◌<◌, Bool, true, false, List, [], ◌∷◌, ◌++◌, length, take, get_or, encode_utf8, encode_utf8_all, refl, sym, ◌∙◌, ap, append-nil}
use Rattle.std.specs.Str.{IsUtf8, is_utf8}
use Rattle.std.proofs.lemmas.List.{take_more}
use Rattle.std.proofs.lemmas.Str.{encodes-append, IsUtf8-from_is_utf8, is_utf8-from_IsUtf8}

pub utf8_said : (octets : List ℕ) → IsUtf8 octets → is_utf8 octets ≡ true
utf8_said octets is = is_utf8-from_IsUtf8 octets is

denied_step : (octets : List ℕ) (b : Bool) → is_utf8 octets ≡ b → (IsUtf8 octets → ⊥) → b ≡ false
denied_step octets true is never = absurd (never (IsUtf8-from_is_utf8 octets is))
denied_step octets false is never = refl

pub utf8_denied : (octets : List ℕ) → (IsUtf8 octets → ⊥) → is_utf8 octets ≡ false
utf8_denied octets never = denied_step octets (is_utf8 octets) refl never

-- an octet more of ISO 8859-1
pub latin_step : (octets text next : List ℕ) (i : ℕ) → i < length octets → text ≡ encode_utf8_all (take i octets) → next ≡ text ++ encode_utf8 (get_or octets i 0) → next ≡ encode_utf8_all (take (i + 1) octets)
latin_step octets text next i within so_far is =
    is
    ∙ ap (λ one. one ++ encode_utf8 (get_or octets i 0)) so_far
    ∙ ap (λ one. encode_utf8_all (take i octets) ++ one) (sym (append-nil (encode_utf8 (get_or octets i 0))))
    ∙ sym (encodes-append (take i octets) (get_or octets i 0 ∷ []))
    ∙ ap encode_utf8_all (sym (take_more octets i 0 within))
