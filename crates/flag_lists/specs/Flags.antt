-- Which texts are flags, how texts are cut into them, and lists of flags (RFC 5232, sections 2 to
-- 4). A flag is known by its spelling. Two are the same if they are equal under i;ascii-casemap.
use Rattle.std.specs.Prelude.{ℕ, Bool, not, ◌&&◌, ◌||◌, ◌==◌, List, [], ◌∷◌, ◌++◌, filter, codes}
use Rattle.std.specs.List.{IsDistinct, flat_map, list_all, list_any, slice_split}
use Rattle.octets.specs.Octet.{is_filled, is_visible, octet_of}
use Rattle.match_text.specs.Comparator.{ascii_casemap, same}

-- FLAGS (RFC 3501, section 9: flag, without flag-extension)

-- the visible characters that no atom has: atom-specials
abbrev pub is_special : ℕ → Bool
is_special b =
    b == octet_of "(" || (b == octet_of ")" || (b == octet_of "{" || (b == octet_of "%" || (b == octet_of "*"
    || (b == octet_of "\"" || (b == octet_of "\\" || b == octet_of "]"))))))

-- an octet of an atom: ATOM-CHAR
abbrev pub is_flag_octet : ℕ → Bool
is_flag_octet b = is_visible b && not (is_special b)

-- a keyword: an atom
abbrev pub is_keyword : List ℕ → Bool
is_keyword text = is_filled text && list_all is_flag_octet text

-- Whether a text is a flag with a `\` that a script may set, in any case of letters. `\Recent` is
-- none of them.
abbrev pub is_system_flag : List ℕ → Bool
is_system_flag text =
    same ascii_casemap text (codes "\\Answered") || (same ascii_casemap text (codes "\\Flagged")
    || (same ascii_casemap text (codes "\\Deleted") || (same ascii_casemap text (codes "\\Seen")
    || same ascii_casemap text (codes "\\Draft"))))

abbrev pub is_flag : List ℕ → Bool
is_flag text = is_system_flag text || is_keyword text

-- LISTS OF FLAGS

-- whether a flag is the same as a member of the list
abbrev pub has_flag : List (List ℕ) → List ℕ → Bool
has_flag flags flag = list_any (same ascii_casemap flag) flags

-- whether a member of the list is equal to a key, by a test that decides equality of texts
abbrev pub has_key : (List ℕ → List ℕ → Bool) → List (List ℕ) → List ℕ → Bool
has_key equal flags key = list_any (λ flag. equal flag key) flags

-- no two flags are the same
abbrev pub AreDistinct : List (List ℕ) → Type 0
AreDistinct flags = IsDistinct (same ascii_casemap) flags

-- the flags that are the same as no member of the others
unfoldable pub flags_without : List (List ℕ) → (others : List (List ℕ)) → List (List ℕ)
flags_without flags others = filter (λ flag. not (has_flag others flag)) flags

-- each flag once, where it stands first and as it is spelled there
unfoldable pub distinct : List (List ℕ) → List (List ℕ)
distinct [] = []
distinct (flag ∷ flags) = flag ∷ flags_without (distinct flags) (flag ∷ [])

-- the first, and after them those of the second that aren't there yet
unfoldable pub flag_union : (first second : List (List ℕ)) → List (List ℕ)
flag_union first second = first ++ flags_without (distinct second) first

-- FLAGS OF TEXTS (RFC 5232, section 2)

abbrev pub is_space : ℕ → Bool
is_space b = b == octet_of " "

-- the texts between the spaces of a text
abbrev pub pieces : List ℕ → List (List ℕ)
pieces text = slice_split is_space text

-- the pieces of a text that are flags
abbrev pub flags_in : List ℕ → List (List ℕ)
flags_in text = filter is_flag (pieces text)

-- the flags of a text, each once, where it stands first; pieces that aren't flags are left out
unfoldable pub flag_list : List ℕ → List (List ℕ)
flag_list text = distinct (flags_in text)

-- the flags of several texts, each once, where it stands first
unfoldable pub flags_of_texts : List (List ℕ) → List (List ℕ)
flags_of_texts texts = distinct (flat_map flags_in texts)

-- flags as a variable holds them: with one space between two
unfoldable pub flag_text : List (List ℕ) → List ℕ
flag_text [] = []
flag_text (flag ∷ flags) = flag ++ flat_map (λ next. octet_of " " ∷ next) flags

-- FLAGS TO LOOK FOR (RFC 5232, section 4)

-- the pieces of a text that have octets
abbrev pub filled_pieces : List ℕ → List (List ℕ)
filled_pieces text = filter is_filled (pieces text)

-- The texts that a key of a test stands for: its pieces that have octets, whether flags or not. The
-- empty key stands for itself.
unfoldable pub flag_keys : List ℕ → List (List ℕ)
flag_keys [] = [] ∷ []
flag_keys (b ∷ rest) = filled_pieces (b ∷ rest)

unfoldable pub flag_keys_of_texts : List (List ℕ) → List (List ℕ)
flag_keys_of_texts keys = flat_map flag_keys keys
