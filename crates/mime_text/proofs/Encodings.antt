-- The names of encodings.
use Rattle.std.proofs.Common.{◌≡◌, ℕ, Bool, true, false, ◌||◌, cond, List, [], ◌∷◌, None, Some, is_some, codes, refl, ap, ◌∙◌}
use Rattle.std.specs.List.{list_any}
use Rattle.std.specs.Str.{str_eq_ignore_ascii_case}
use Rattle.octets.proofs.Both.{some_step}
use Rattle.mime_text.specs.TransferEncoding.{encoding_named, is_identity}
use Rattle.mime_text.specs.declared.encoding.TransferEncoding.TheVariants.{Base64, Identity, QuotedPrintable}

in_turn : (a b c : Bool) → (((a || b) || c) || false) ≡ (a || (b || (c || false)))
in_turn true b c = refl
in_turn false true c = refl
in_turn false false c = refl

pub encodings_known : (name : List ℕ) → is_some (encoding_named name)
    ≡ list_any (λ known. str_eq_ignore_ascii_case known name) (codes "base64" ∷ codes "quoted-printable" ∷ codes "7bit" ∷ codes "8bit" ∷ codes "binary" ∷ [])
unfolding encoding_named is_identity
encodings_known name =
    let base64 = str_eq_ignore_ascii_case (codes "base64") name in
    let quoted = str_eq_ignore_ascii_case (codes "quoted-printable") name in
    let seven = str_eq_ignore_ascii_case (codes "7bit") name in
    let eight = str_eq_ignore_ascii_case (codes "8bit") name in
    let binary = str_eq_ignore_ascii_case (codes "binary") name in
    let identity = (seven || eight) || binary in
    some_step base64 Base64 (cond quoted (Some QuotedPrintable) (cond identity (Some Identity) None))
    ∙ ap (λ more. base64 || more) (some_step quoted QuotedPrintable (cond identity (Some Identity) None)
    ∙ ap (λ more. quoted || more) (some_step identity Identity None ∙ in_turn seven eight binary))
