-- Words with spaces between them.
use Rattle.octets.specs.Octet.{octet_of}
use Rattle.std.proofs.Common.{◌≡◌, ◌≢◌, ℕ, ◌+◌, ◌/◌, ◌%◌, ◌<◌, ◌||◌, Bool, true, false, eqb, cond, inl, inr, List, [], ◌∷◌, ◌++◌, length, map, drop, length-append, append-nil, append_assoc, nat_lt, Some, refl, sym, ap, ◌∙◌, arith}
use Rattle.std.specs.List.{All, AllByRecursion, flat_map}
use Rattle.std.proofs.Math.Seq.{drop-append_seam, take-append_seam}
use Rattle.std.proofs.lemmas.Bool.Decides.{nat_tests}
use Rattle.std.proofs.lemmas.List.Elements.{recursion_from_All}
use Rattle.octets.specs.Hex.{hex_digit}
use Rattle.devices.specs.Writers.{octet_spelling, quoted}
use Rattle.session_text.specs.LineOf.{IsLineOf, IsWord, after_space, first_word, joined, last_word, no_words}
use Rattle.session_text.specs.SessionLine.{Quoting, inside, is_bare, line_words, outside, piece_length, word_value}
use Rattle.session_text.proofs.Quoting.{quoted_stands}
use Rattle.session_text.proofs.Words.{line_words-none, line_words-space, line_words-word}

-- no space that stands between words is among octets that lead from one quoting to another
abbrev Passes : Quoting → List ℕ → Quoting → Type 0
Passes quoting octets quoting' = (rest : List ℕ) → piece_length quoting (octets ++ rest) ≡ length octets + piece_length quoting' rest

passes_nothing : (quoting : Quoting) → Passes quoting [] quoting
passes_nothing quoting rest = omega arith

passes_both : (s t u : Quoting) (a b : List ℕ) → Passes s a t → Passes t b u → Passes s (a ++ b) u
passes_both s t u a b first second rest =
    let size = length-append a b in
    let one = first (b ++ rest) in
    let two = second rest in
    ap (piece_length s) (append_assoc a b rest) ∙ omega (arith, one, two, size)

-- an octet of a bare word is no space between words, and opens no quotes
bare_passes : (b : ℕ) → is_bare b ≡ true → Passes outside (b ∷ []) outside
bare_passes b bare rest = grind (arith, nat_tests)

bare_all : (word : List ℕ) → AllByRecursion (λ b. is_bare b ≡ true) word → Passes outside word outside
bare_all [] bare = passes_nothing outside
bare_all (b ∷ bs) bare = passes_both outside outside outside (b ∷ []) bs (bare_passes b bare.0) (bare_all bs bare.1)

-- a quote opens quotes, and closes them
opens : Passes outside (octet_of "\"" ∷ []) inside
opens rest = omega arith

closes : Passes inside (octet_of "\"" ∷ []) outside
closes rest = omega arith

-- an octet after a backslash neither ends the quotes nor stands between words
escape_passes : (b : ℕ) → Passes inside (octet_of "\\" ∷ b ∷ []) inside
escape_passes b rest = omega arith

-- an octet between quotes, neither a quote nor a backslash, leaves them open
inner_passes : (b : ℕ) → b ≢ octet_of "\"" → b ≢ octet_of "\\" → Passes inside (b ∷ []) inside
inner_passes b no_quote no_backslash rest = grind (arith, nat_tests)

digit_passes : (n : ℕ) → Passes inside (hex_digit n ∷ []) inside
digit_passes n =
    let no_quote : hex_digit n ≢ octet_of "\"" = λ is. absurd (grind (arith, nat_tests)) in
    let no_backslash : hex_digit n ≢ octet_of "\\" = λ is. absurd (grind (arith, nat_tests)) in
    inner_passes (hex_digit n) no_quote no_backslash

digits_pass : (m n : ℕ) → Passes inside (octet_of "\\" ∷ octet_of "x" ∷ hex_digit m ∷ hex_digit n ∷ []) inside
digits_pass m n =
    passes_both inside inside inside (octet_of "\\" ∷ octet_of "x" ∷ []) (hex_digit m ∷ hex_digit n ∷ []) (escape_passes (octet_of "x"))
    (passes_both inside inside inside (hex_digit m ∷ []) (hex_digit n ∷ []) (digit_passes m) (digit_passes n))

spelling_passes : (b : ℕ) → Passes inside (octet_spelling b) inside
spelling_passes b = by_quote (eqb b (octet_of "\"") || eqb b (octet_of "\\")) refl
  where
    by_digits : (v : Bool) → (eqb b (octet_of "\"") || eqb b (octet_of "\\")) ≡ false → Passes inside (cond v (octet_of "\\" ∷ octet_of "x" ∷ hex_digit (b / 16) ∷ hex_digit (b % 16) ∷ []) (b ∷ [])) inside
    by_digits true none = digits_pass (b / 16) (b % 16)
    by_digits false none =
        let no_quote : b ≢ octet_of "\"" = λ is. absurd (grind (arith, nat_tests)) in
        let no_backslash : b ≢ octet_of "\\" = λ is. absurd (grind (arith, nat_tests)) in
        inner_passes b no_quote no_backslash

    by_quote : (v : Bool) → (eqb b (octet_of "\"") || eqb b (octet_of "\\")) ≡ v → Passes inside (cond v (octet_of "\\" ∷ b ∷ []) (cond (nat_lt b (octet_of " ") || nat_lt (octet_of "~") b) (octet_of "\\" ∷ octet_of "x" ∷ hex_digit (b / 16) ∷ hex_digit (b % 16) ∷ []) (b ∷ []))) inside
    by_quote true is = escape_passes b
    by_quote false is = by_digits (nat_lt b (octet_of " ") || nat_lt (octet_of "~") b) is

spellings_pass : (octets : List ℕ) → Passes inside (flat_map octet_spelling octets) inside
spellings_pass [] = passes_nothing inside
spellings_pass (b ∷ bs) = passes_both inside inside inside (octet_spelling b) (flat_map octet_spelling bs) (spelling_passes b) (spellings_pass bs)

quoted_passes : (octets : List ℕ) → Passes outside (quoted octets) outside
unfolding quoted
quoted_passes octets =
    passes_both outside inside outside ((octet_of "\"" ∷ []) ++ flat_map octet_spelling octets) (octet_of "\"" ∷ [])
    (passes_both outside inside inside (octet_of "\"" ∷ []) (flat_map octet_spelling octets) opens (spellings_pass octets)) closes

quoted_some : (octets : List ℕ) → 0 < length (quoted octets)
unfolding quoted
quoted_some octets = omega arith

-- a word holds no space that stands between words
word_passes : (word : List ℕ) → IsWord word → Passes outside word outside
word_passes word (inl bare) = bare_all word (recursion_from_All (λ b. is_bare b ≡ true) word bare.bare)
word_passes word (inr made) = rw made.1 (quoted_passes made.0)

word_some : (word : List ℕ) → IsWord word → 0 < length word
word_some word (inl bare) = bare.some
word_some word (inr made) = rw made.1 (quoted_some made.0)

-- a word before nothing or before a space is the first word of the line
word_before : (word rest : List ℕ) → IsWord word → piece_length outside rest ≡ 0 → line_words (word ++ rest) ≡ word ∷ line_words rest
word_before word rest is none =
    let size : length word ≡ piece_length outside (word ++ rest) = omega (arith, word_passes word is rest, none) in
    line_words-word (word ++ rest) (length word) size (word_some word is)
    ∙ ap (λ front. front ∷ line_words (drop (length word) (word ++ rest))) (take-append_seam word rest)
    ∙ ap (λ left. word ∷ line_words left) (drop-append_seam word rest)

no_line : line_words [] ≡ []
no_line = line_words-none [] refl

-- a line that is made of words has these words
pub words_of_line : (words : List (List ℕ)) (line : List ℕ) → IsLineOf words line → line_words line ≡ words
words_of_line words line no_words = no_line
words_of_line words line (last_word word is) =
    ap line_words (sym (append-nil word)) ∙ word_before word [] is refl ∙ ap (λ rest. word ∷ rest) no_line
words_of_line words line (after_space ws rest made) = line_words-space rest ∙ words_of_line ws rest made
words_of_line words line (first_word word ws rest is made) =
    word_before word (octet_of " " ∷ rest) is refl ∙ ap (λ left. word ∷ left) (line_words-space rest ∙ words_of_line ws rest made)

-- words that are joined by single spaces make a line of these words
joined_line : (words : List (List ℕ)) → AllByRecursion IsWord words → IsLineOf words (joined words)
joined_line [] all = no_words
joined_line (word ∷ []) all = last_word word all.0
joined_line (word ∷ next ∷ words) all = first_word word (next ∷ words) (joined (next ∷ words)) all.0 (joined_line (next ∷ words) all.1)

pub words_of_joined : (words : List (List ℕ)) → All IsWord words → line_words (joined words) ≡ words
words_of_joined words all = words_of_line words (joined words) (joined_line words (recursion_from_All IsWord words all))

-- VALUES

quoted_words : (values : List (List ℕ)) → AllByRecursion IsWord (map quoted values)
quoted_words [] = tt
quoted_words (value ∷ values) = (inr (value, refl), quoted_words values)

values_back : (values : List (List ℕ)) → AllByRecursion (All (λ octet. octet < 256)) values → map word_value (map quoted values) ≡ map Some values
values_back [] small = refl
values_back (value ∷ values) small =
    ap (λ first. first ∷ map word_value (map quoted values)) (quoted_stands value small.0) ∙ ap (λ rest. Some value ∷ rest) (values_back values small.1)

pub values_of_line : (values : List (List ℕ)) → All (All (λ octet. octet < 256)) values → map word_value (line_words (joined (map quoted values))) ≡ map Some values
values_of_line values small =
    ap (map word_value) (words_of_line (map quoted values) (joined (map quoted values)) (joined_line (map quoted values) (quoted_words values)))
    ∙ values_back values (recursion_from_All (All (λ octet. octet < 256)) values small)
