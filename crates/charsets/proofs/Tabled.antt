-- Octets of a charset with a table, from the left.
use Rattle.std.proofs.Common.{◌≡◌, ℕ, ◌+◌, ◌<◌, ◌≤◌, ◌&&◌, List, [], ◌∷◌, ◌++◌, length, drop, get_or, Option, None, Some, is_some, encode_utf8, encode_utf8_all, refl, sym, ap, ◌∙◌, append_assoc, append-nil}
use Rattle.std.specs.List.{cons_option, filter_map, list_all}
use Rattle.std.proofs.lemmas.List.{drop_all, drop_more}
use Rattle.charsets.specs.Charset.{character_at, if_right, is_character, tabled}

-- octets that are done, and others after them in UTF-8, if each of these stands for a character
abbrev pub with_left : (table done : List ℕ) → List ℕ → Option (List ℕ)
with_left table done octets = if_right (list_all (is_character table) octets) (done ++ encode_utf8_all (filter_map (character_at table) octets))

pub all_left : (table octets : List ℕ) → with_left table [] (drop 0 octets) ≡ tabled table octets
unfolding tabled
all_left table octets = refl

one_more : (table rest done next : List ℕ) (octet character : ℕ) (whole : Option (List ℕ)) → Some character ≡ character_at table octet → next ≡ done ++ encode_utf8 character → with_left table done (octet ∷ rest) ≡ whole → with_left table next rest ≡ whole
one_more table rest done next octet character whole found is so_far =
    let more = encode_utf8_all (filter_map (character_at table) rest) in
    ap (λ (one : List ℕ). if_right (list_all (is_character table) rest) (one ++ more)) is
    ∙ ap (λ (one : List ℕ). if_right (list_all (is_character table) rest) one) (append_assoc done (encode_utf8 character) more)
    ∙ ap (λ one. if_right (is_some one && list_all (is_character table) rest) (done ++ encode_utf8_all (cons_option one (filter_map (character_at table) rest)))) found
    ∙ so_far

pub character_more : (table octets done next : List ℕ) (i character : ℕ) (whole : Option (List ℕ)) → i < length octets → Some character ≡ character_at table (get_or octets i 0) → next ≡ done ++ encode_utf8 character → with_left table done (drop i octets) ≡ whole → with_left table next (drop (i + 1) octets) ≡ whole
character_more table octets done next i character whole within found is so_far =
    one_more table (drop (i + 1) octets) done next (get_or octets i 0) character whole found is
    (ap (with_left table done) (sym (drop_more octets i 0 within)) ∙ so_far)

pub character_lacking : (table octets done : List ℕ) (i : ℕ) (whole : Option (List ℕ)) → i < length octets → None ≡ character_at table (get_or octets i 0) → with_left table done (drop i octets) ≡ whole → None ≡ whole
character_lacking table octets done i whole within lacking so_far =
    let rest = drop (i + 1) octets in
    ap (λ one. if_right (is_some one && list_all (is_character table) rest) (done ++ encode_utf8_all (cons_option one (filter_map (character_at table) rest)))) lacking
    ∙ ap (with_left table done) (sym (drop_more octets i 0 within))
    ∙ so_far

pub none_left : (table octets done : List ℕ) (i : ℕ) (whole : Option (List ℕ)) → length octets ≤ i → with_left table done (drop i octets) ≡ whole → Some done ≡ whole
none_left table octets done i whole ended so_far =
    ap Some (sym (append-nil done)) ∙ ap (with_left table done) (sym (drop_all i octets ended)) ∙ so_far
