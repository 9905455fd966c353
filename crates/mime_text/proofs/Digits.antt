-- Digits of base64, four by four.
use Rattle.std.proofs.Common.{◌≡◌, ℕ, ◌-◌, ◌<◌, ◌≤◌, List, [], ◌∷◌, ◌++◌, length, take, drop, get_or, refl, sym, ap, ◌∙◌, append_assoc, arith}
use Rattle.std.proofs.lemmas.List.{take_all}
use Rattle.mime_text.specs.Base64.{first_octet, second_octet, third_octet, whole_octets}

abbrev three_of : List ℕ → List ℕ
three_of ds = first_octet (get_or ds 0 0) (get_or ds 1 0) ∷ second_octet (get_or ds 1 0) (get_or ds 2 0) ∷ third_octet (get_or ds 2 0) (get_or ds 3 0) ∷ []

pub four : (ds : List ℕ) → 4 ≤ length ds → whole_octets ds ≡ three_of ds ++ whole_octets (take (length ds - 4) (drop 4 ds))
unfolding whole_octets
four [] long = absurd (omega (arith, long))
four (a ∷ []) long = absurd (omega (arith, long))
four (a ∷ b ∷ []) long = absurd (omega (arith, long))
four (a ∷ b ∷ c ∷ []) long = absurd (omega (arith, long))
four (a ∷ b ∷ c ∷ d ∷ rest) long =
    ap (λ more. first_octet a b ∷ second_octet b c ∷ third_octet c d ∷ whole_octets more) (sym (take_all (length (a ∷ b ∷ c ∷ d ∷ rest) - 4) rest (omega arith)))

-- octets with those of four digits more
pub four_more : (done new ds : List ℕ) → 4 ≤ length ds → new ≡ done ++ three_of ds → new ++ whole_octets (take (length ds - 4) (drop 4 ds)) ≡ done ++ whole_octets ds
four_more done new ds long is =
    ap (λ (front : List ℕ). front ++ whole_octets (take (length ds - 4) (drop 4 ds))) is
    ∙ append_assoc done (three_of ds) (whole_octets (take (length ds - 4) (drop 4 ds)))
    ∙ ap (λ (rest : List ℕ). done ++ rest) (sym (four ds long))

pub last_three : (ds : List ℕ) → 3 ≤ length ds → length ds < 4 → whole_octets ds ≡ first_octet (get_or ds 0 0) (get_or ds 1 0) ∷ second_octet (get_or ds 1 0) (get_or ds 2 0) ∷ []
unfolding whole_octets
last_three [] long few = absurd (omega (arith, long))
last_three (a ∷ []) long few = absurd (omega (arith, long))
last_three (a ∷ b ∷ []) long few = absurd (omega (arith, long))
last_three (a ∷ b ∷ c ∷ []) long few = refl
last_three (a ∷ b ∷ c ∷ d ∷ rest) long few = absurd (omega (arith, few))

pub last_two : (ds : List ℕ) → 2 ≤ length ds → length ds < 3 → whole_octets ds ≡ first_octet (get_or ds 0 0) (get_or ds 1 0) ∷ []
unfolding whole_octets
last_two [] long few = absurd (omega (arith, long))
last_two (a ∷ []) long few = absurd (omega (arith, long))
last_two (a ∷ b ∷ []) long few = refl
last_two (a ∷ b ∷ c ∷ rest) long few = absurd (omega (arith, few))

pub last_none : (ds : List ℕ) → length ds < 2 → whole_octets ds ≡ []
unfolding whole_octets
last_none [] few = refl
last_none (a ∷ []) few = refl
last_none (a ∷ b ∷ rest) few = absurd (omega (arith, few))
