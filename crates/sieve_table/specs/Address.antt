-- The header fields that hold addresses, and the parts of an envelope that have one.
use Rattle.std.specs.Prelude.{ℕ, Bool, List, [], ◌∷◌, codes}
use Rattle.std.specs.List.{list_any}
use Rattle.std.specs.Str.{str_eq_ignore_ascii_case}

-- Whether a name is one of these. Names of fields ignore the case of ASCII (RFC 5228, 2.4.2.2).
abbrev pub is_one_of : List (List ℕ) → List ℕ → Bool
is_one_of names name = list_any (λ one. str_eq_ignore_ascii_case one name) names

-- The fields that an `address` test may name (RFC 5228, 5.1). They are those with addresses of
-- RFC 5322, sections 3.6 and 4.5.6, and some that mail systems add.
abbrev pub address_fields : List (List ℕ)
address_fields =
    codes "from" ∷ codes "to" ∷ codes "cc" ∷ codes "bcc" ∷ codes "sender" ∷ codes "reply-to"
    ∷ codes "resent-from" ∷ codes "resent-to" ∷ codes "resent-cc" ∷ codes "resent-bcc" ∷ codes "resent-sender" ∷ codes "resent-reply-to"
    ∷ codes "return-path" ∷ codes "delivered-to" ∷ codes "errors-to" ∷ codes "disposition-notification-to" ∷ codes "x-original-to" ∷ codes "envelope-to" ∷ []

unfoldable pub is_address_field : List ℕ → Bool
is_address_field name = is_one_of address_fields name

-- the parts that an `envelope` test may name, in any case (RFC 5228, 5.4)
abbrev pub envelope_parts : List (List ℕ)
envelope_parts = codes "from" ∷ codes "to" ∷ []

unfoldable pub is_envelope_part : List ℕ → Bool
is_envelope_part name = is_one_of envelope_parts name
