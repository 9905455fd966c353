-- The type of a content and its parameters (RFC 2045, 5.1).
use Rattle.std.specs.Prelude.{ℕ, ◌-◌, ◌==◌, Bool, true, false, not, ◌&&◌, List, [], ◌∷◌, length, take, drop, slice_index_or, map, Option, Some, None, codes, if◌then◌else◌}
use Rattle.std.specs.List.{after_first, before_first, list_all, list_any, prefix_len, slice_split, suffix_len}
use Rattle.std.specs.Option.{option_and_then, option_map}
use Rattle.std.specs.Str.{str_eq_ignore_ascii_case}
use Rattle.octets.specs.Octet.{is_visible, is_white, octet_of}
use Rattle.mime_text.specs.Marks.{marks_of}
use Rattle.mime_text.specs.declared.marks.ValueMark.{ValueMark}
use Rattle.mime_text.specs.declared.marks.ValueMark.TheVariants.{Plain, Quote, Quoted}

-- TOKENS

-- an octet that has a meaning of its own, so that no token has it
abbrev pub is_special : ℕ → Bool
is_special octet = list_any (λ special. octet == special) (codes "()<>@,;:\\\"/[]?=")

-- an octet of a token: a visible one of ASCII that isn't special
abbrev pub is_token_octet : ℕ → Bool
is_token_octet octet = is_visible octet && not (is_special octet)

-- a token's octet outside of quoted strings
abbrev pub is_token_mark : ValueMark → Bool
is_token_mark (Plain octet) = is_token_octet octet
is_token_mark Quote = false
is_token_mark (Quoted octet) = false

-- whether a mark is this octet, outside of quoted strings
abbrev pub is_sign : ℕ → ValueMark → Bool
is_sign sign (Plain octet) = octet == sign
is_sign sign Quote = false
is_sign sign (Quoted octet) = false

abbrev pub is_gap : ValueMark → Bool
is_gap (Plain octet) = is_white octet
is_gap Quote = false
is_gap (Quoted octet) = false

-- the octet of a mark; that of a quote is `"`
abbrev pub octet_at : ValueMark → ℕ
octet_at (Plain octet) = octet
octet_at Quote = octet_of "\""
octet_at (Quoted octet) = octet

-- marks without the white space at the start, at the end, or at both
abbrev pub trim_front : List ValueMark → List ValueMark
trim_front marks = drop (prefix_len is_gap marks) marks

abbrev pub trim_back : List ValueMark → List ValueMark
trim_back marks = take (length marks - suffix_len is_gap marks) marks

abbrev pub trimmed : List ValueMark → List ValueMark
trimmed marks = trim_back (trim_front marks)

-- a token: one or more marks of such octets
abbrev pub is_token : List ValueMark → Bool
is_token marks = if length marks == 0 then false else list_all is_token_mark marks

abbrev pub token_of : List ValueMark → Option (List ℕ)
token_of marks = if is_token marks then Some (map octet_at marks) else None

-- a token without the white space and comments around it
abbrev pub token_in : List ValueMark → Option (List ℕ)
token_in marks = token_of (trimmed marks)

-- VALUES

abbrev pub is_quote : ValueMark → Bool
is_quote (Plain octet) = false
is_quote Quote = true
is_quote (Quoted octet) = false

abbrev pub is_quoted : ValueMark → Bool
is_quoted (Plain octet) = false
is_quoted Quote = false
is_quoted (Quoted octet) = true

-- The octets before a closing quote. The last mark is a quote, and all others are octets
-- of a quoted string.
abbrev pub before_quote : List ValueMark → Option (List ℕ)
before_quote marks =
    if is_quote (slice_index_or marks (length marks - 1) (Plain 0)) && list_all is_quoted (take (length marks - 1) marks)
    then Some (map octet_at (take (length marks - 1) marks))
    else None

-- the value of a parameter: a token, or the octets of a quoted string
abbrev pub value_of : List ValueMark → Option (List ℕ)
value_of [] = None
value_of (Quote ∷ ms) = before_quote ms
value_of (Plain octet ∷ ms) = token_of (Plain octet ∷ ms)
value_of (Quoted octet ∷ ms) = None

-- TYPES

-- a pair of values, if both are there
abbrev pub both : (first second : Option (List ℕ)) → Option (List ℕ × List ℕ)
both first second = option_and_then (λ x. option_map (λ y. (x, y)) second) first

-- a type and a subtype, with a `/` between them
abbrev pub type_in : List ValueMark → Option (List ℕ × List ℕ)
type_in piece =
    if list_any (is_sign (octet_of "/")) piece
    then both (token_in (before_first (is_sign (octet_of "/")) piece)) (token_in (after_first (is_sign (octet_of "/")) piece))
    else None

-- the name of a parameter and its value, with a `=` between them
abbrev pub parameter_in : List ValueMark → Option (List ℕ × List ℕ)
parameter_in piece =
    if list_any (is_sign (octet_of "=")) piece
    then both (token_in (before_first (is_sign (octet_of "=")) piece)) (value_of (trimmed (after_first (is_sign (octet_of "=")) piece)))
    else None

abbrev pub Parameters : Type 0
Parameters = List (List ℕ × List ℕ)

abbrev pub with_parameter : Option (List ℕ × List ℕ) → Option Parameters → Option Parameters
with_parameter first more = option_and_then (λ p. option_map (λ ps. p ∷ ps) more) first

unfoldable pub parameters_of : List (List ValueMark) → Option Parameters
parameters_of [] = Some []
parameters_of (piece ∷ more) = with_parameter (parameter_in piece) (parameters_of more)

-- pieces without a last one that is white space alone
abbrev pub without_blank_end : List (List ValueMark) → List (List ValueMark)
without_blank_end pieces = if list_all is_gap (slice_index_or pieces (length pieces - 1) []) then take (length pieces - 1) pieces else pieces

-- the parameters that pieces are; the last piece may be white space alone
abbrev pub parameters_in : List (List ValueMark) → Option Parameters
parameters_in pieces = parameters_of (without_blank_end pieces)

-- the value of the first parameter of a name, in any case of letters
unfoldable pub parameter_named : (name : List ℕ) → Parameters → Option (List ℕ)
parameter_named name [] = None
parameter_named name (p ∷ more) = if str_eq_ignore_ascii_case name p.0 then Some p.1 else parameter_named name more

-- a type, a subtype, and the parameters that are looked at
pub record ContentType : Type 0 where
  pub main : List ℕ
  pub sub : List ℕ
  pub boundary : Option (List ℕ)
  pub charset : Option (List ℕ)

-- the values of the parameters that are looked at
pub record NamedParameters : Type 0 where
  pub boundary : Option (List ℕ)
  pub charset : Option (List ℕ)

abbrev pub named_of : Parameters → NamedParameters
named_of parameters = record { boundary = parameter_named (codes "boundary") parameters; charset = parameter_named (codes "charset") parameters }

abbrev pub named_in : List (List ValueMark) → Option NamedParameters
named_in pieces = option_map named_of (parameters_in pieces)

abbrev pub type_with : List ℕ × List ℕ → NamedParameters → ContentType
type_with names named = record { main = names.0; sub = names.1; boundary = named.boundary; charset = named.charset }

abbrev pub with_type : Option (List ℕ × List ℕ) → Option NamedParameters → Option ContentType
with_type type named = option_and_then (λ names. option_map (type_with names) named) type

abbrev pub content_type_of : List (List ValueMark) → Option ContentType
content_type_of [] = None
content_type_of (piece ∷ more) = with_type (type_in piece) (named_in more)

-- The type that a value says, or none where it doesn't say one. A `;` stands before each parameter.
abbrev pub content_type_in : List ℕ → Option ContentType
content_type_in value = option_and_then (λ marks. content_type_of (slice_split (is_sign (octet_of ";")) marks)) (marks_of value)

-- whether a type has this main type, or also this subtype, in any case of letters
abbrev pub is_main : (name : List ℕ) → ContentType → Bool
is_main name type = str_eq_ignore_ascii_case name type.main

abbrev pub is_type : (main sub : List ℕ) → ContentType → Bool
is_type main sub type = is_main main type && str_eq_ignore_ascii_case sub type.sub
