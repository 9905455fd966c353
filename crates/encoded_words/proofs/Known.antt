-- The meaning of a word, by its charset.
use Rattle.std.proofs.Common.{◌≡◌, ℕ, true, false, List, Option, None, Some, refl, ap}
use Rattle.std.specs.Option.{option_and_then}
use Rattle.std.specs.Str.{is_utf8}
use Rattle.base64.specs.GeneralPurpose.{IsBytes}
use Rattle.charsets.specs.Charset.{charset_named, in_utf8}
use Rattle.charsets.specs.declared.charset.Charset.{Charset}
use Rattle.charsets.proofs.Known.{charset_utf8, same_named}
use Rattle.encoded_words.proofs.Octets.{word_are}
use Rattle.encoded_words.specs.Meaning.{meaning, octets_in}
use Rattle.encoded_words.specs.Word.{EncodedWord, is_legal}
use Rattle.sieve_profile.specs.Profile.{Profile, empty_profile, has}
use Rattle.sieve_profile.specs.declared.extension.Extension.TheVariants.{Charsets}

pub same_meaning : (profile : Profile) (word : EncodedWord) → has profile Charsets ≡ false → meaning profile word ≡ meaning empty_profile word
unfolding meaning
same_meaning profile word lacks =
    ap (λ found. option_and_then (λ charset. option_and_then (in_utf8 charset) (octets_in word)) found) (same_named profile word.charset lacks)

named_step : (named : Option Charset) (octets : Option (List ℕ)) (text : List ℕ) → ((found : List ℕ) → octets ≡ Some found → IsBytes found) → option_and_then (λ charset. option_and_then (in_utf8 charset) octets) named ≡ Some text → is_utf8 text ≡ true
named_step None octets text bytes is = absurd cc
named_step (Some charset) None text bytes is = absurd cc
named_step (Some charset) (Some found) text bytes is = charset_utf8 charset found text (bytes found refl) is

pub word_utf8 : (profile : Profile) (word : EncodedWord) (octets : List ℕ) → is_legal word ≡ true → meaning profile word ≡ Some octets → is_utf8 octets ≡ true
unfolding meaning
word_utf8 profile word octets legal is = named_step (charset_named profile word.charset) (octets_in word) octets (λ found so. word_are word found legal so) is
