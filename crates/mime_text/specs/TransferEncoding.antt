-- The encoding that a value says, and the octets of a content under it (RFC 2045, section 6).
use Rattle.std.specs.Prelude.{ℕ, Bool, List, Option, None, Some, codes, if◌then◌else◌, ◌||◌}
use Rattle.std.specs.Option.{option_and_then}
use Rattle.std.specs.Str.{str_eq_ignore_ascii_case}
use Rattle.mime_text.specs.Base64.{base64_octets}
use Rattle.mime_text.specs.ContentType.{token_in}
use Rattle.mime_text.specs.Marks.{marks_of}
use Rattle.mime_text.specs.QuotedPrintable.{quoted_octets}
use Rattle.mime_text.specs.declared.encoding.TransferEncoding.{TransferEncoding}
use Rattle.mime_text.specs.declared.encoding.TransferEncoding.TheVariants.{Identity, Base64, QuotedPrintable}

-- whether a name is of an encoding that changes nothing, in any case of letters
unfoldable pub is_identity : List ℕ → Bool
is_identity name = (str_eq_ignore_ascii_case (codes "7bit") name || str_eq_ignore_ascii_case (codes "8bit") name) || str_eq_ignore_ascii_case (codes "binary") name

-- the encoding of a name, in any case of letters, if it is known
unfoldable pub encoding_named : List ℕ → Option TransferEncoding
encoding_named name =
    if str_eq_ignore_ascii_case (codes "base64") name then Some Base64
    else if str_eq_ignore_ascii_case (codes "quoted-printable") name then Some QuotedPrintable
    else if is_identity name then Some Identity
    else None

-- the encoding that a value says, which is a token, if it is known (RFC 2045, 6.1)
abbrev pub encoding_in : List ℕ → Option TransferEncoding
encoding_in value = option_and_then (λ marks. option_and_then encoding_named (token_in marks)) (marks_of value)

-- the octets that a content in an encoding stands for
abbrev pub octets_of : TransferEncoding → (content : List ℕ) → List ℕ
octets_of Identity content = content
octets_of Base64 content = base64_octets content
octets_of QuotedPrintable content = quoted_octets content
