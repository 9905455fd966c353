-- Worked rows of whether a value has a word of a known charset, which no output shows.
use Rattle.std.specs.Prelude.{◌≡◌, codes, true, false, refl}
use Rattle.sieve_profile.specs.Profile.{empty_profile, with_extension}
use Rattle.sieve_profile.specs.declared.extension.Extension.TheVariants.{Charsets}
use Rattle.charsets.specs.Charset.{codepage_named}
use Rattle.encoded_words.specs.Scan.{has_known, word_at}

unknown_row : has_known empty_profile (codes "=?koi8-r?Q?a?=") ≡ false
unfolding has_known word_at
unknown_row = refl

open_row : has_known empty_profile (codes "=?UTF-8?Q?a? =") ≡ false
unfolding has_known word_at
open_row = refl

known_row : has_known empty_profile (codes "=?koi8-r?Q?a?= =?UTF-8?B?!?=") ≡ true
unfolding has_known word_at
known_row = refl

asked_row : has_known (with_extension empty_profile Charsets) (codes "=?koi8-r?Q?a?=") ≡ true
unfolding has_known word_at codepage_named
asked_row = refl

other_row : has_known (with_extension empty_profile Charsets) (codes "=?koi8-u?Q?a?=") ≡ false
unfolding has_known word_at codepage_named
other_row = refl
