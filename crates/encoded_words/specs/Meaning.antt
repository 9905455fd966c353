-- The octets that an encoded word stands for.
use Rattle.std.specs.Prelude.{ℕ, List, Option, if◌then◌else◌}
use Rattle.std.specs.Option.{option_and_then}
use Rattle.charsets.specs.Charset.{charset_named, in_utf8}
use Rattle.sieve_profile.specs.Profile.{Profile}
use Rattle.encoded_words.specs.Encoding.{b_octets, q_octets}
use Rattle.encoded_words.specs.Word.{EncodedWord, is_b}

-- the octets of a word's text (RFC 2047, section 4)
abbrev pub octets_in : EncodedWord → Option (List ℕ)
octets_in word = if is_b word.letter then b_octets word.text else q_octets word.text

-- the octets that a word stands for, if it can be decoded (RFC 2047, sections 3 and 4)
unfoldable pub meaning : Profile → EncodedWord → Option (List ℕ)
meaning profile word = option_and_then (λ charset. option_and_then (in_utf8 charset) (octets_in word)) (charset_named profile word.charset)
