-- The octets that a text in B or in Q stands for (RFC 2047, section 4).
use Rattle.std.specs.Prelude.{ℕ, ◌==◌, List, [], ◌∷◌, Option, None, Some, if◌then◌else◌}
use Rattle.std.specs.Option.{option_and_then, option_map}
use Rattle.std.specs.Result.{result_ok}
use Rattle.base64.specs.Engines.{standard}
use Rattle.base64.specs.GeneralPurpose.{decode_of}
use Rattle.octets.specs.Hex.{hex_octet}
use Rattle.octets.specs.Octet.{octet_of}

-- B is base64 (RFC 2047, 4.1; RFC 4648, section 4). It has its padding, and zeros in the bits
-- that are left over.
unfoldable pub b_octets : List ℕ → Option (List ℕ)
b_octets text = result_ok (decode_of standard text)

-- the octet that a letter of Q other than `=` stands for
abbrev pub plain_octet : ℕ → ℕ
plain_octet c = if c == octet_of "_" then octet_of " " else c

-- an octet before others, if there are any
abbrev pub octet_before : ℕ → Option (List ℕ) → Option (List ℕ)
octet_before c octets = option_map (λ after. c ∷ after) octets

-- In Q `_` is a space, and `=` before two hexadecimal digits is their octet (RFC 2047, 4.2).
unfoldable pub q_octets : List ℕ → Option (List ℕ)
q_octets [] = Some []
q_octets (c ∷ []) = if c == octet_of "=" then None else Some (plain_octet c ∷ [])
q_octets (c ∷ d ∷ []) = if c == octet_of "=" then None else octet_before (plain_octet c) (q_octets (d ∷ []))
q_octets (c ∷ d ∷ e ∷ rest) =
    if c == octet_of "=" then option_and_then (λ octet. octet_before octet (q_octets rest)) (hex_octet d e)
    else octet_before (plain_octet c) (q_octets (d ∷ e ∷ rest))
