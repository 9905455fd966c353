-- The octets that the dump writes of parts and strings.
use Rattle.std.proofs.Common.{◌≡◌, ℕ, ◌-◌, ◌<◌, ◌≤◌, List, [], ◌∷◌, ◌++◌, length, get_or, take, drop, codes, Some, refl, sym, ap, ◌∙◌, arith, append_assoc}
use Rattle.std.specs.List.{flat_map, slice_get}
use Rattle.std.proofs.lemmas.List.{append-nil, take_rest}
use Rattle.sieve_variables.specs.Part.{Part}
use Rattle.sieve_dump.specs.Commands.{case_word, first_word, modifier_words}
use Rattle.sieve_dump.specs.Strings.{given_word, list_text, part_text, separated, string_text}
use Rattle.sieve_variables.specs.declared.modifier.Modifiers.{Modifiers}
use Rattle.sieve_dump.specs.view.Marked.{marked_part, marked_string}

parts_marked : (parts : List Part) → flat_map (λ p. codes "+" ++ part_text p) parts ≡ flat_map marked_part parts
unfolding marked_part
parts_marked [] = refl
parts_marked (p ∷ ps) = ap (λ t. (codes "+" ++ part_text p) ++ t) (parts_marked ps)

strings_marked : (strings : List (List Part)) → flat_map (λ s. codes ", " ++ string_text s) strings ≡ flat_map marked_string strings
unfolding marked_string
strings_marked [] = refl
strings_marked (s ∷ ss) = ap (λ t. (codes ", " ++ string_text s) ++ t) (strings_marked ss)

-- a string without parts is written as an empty string in quotes
pub string_none : (parts : List Part) → length parts ≤ 0 → codes "\"\"" ≡ string_text parts
unfolding string_text
string_none [] none = refl
string_none (p ∷ ps) none = absurd (omega (arith, none))

-- A string with parts is written as its first part without a mark, and the others after their
-- marks.
pub string_some : (parts : List Part) (part : Part) → 0 < length parts → part ≡ get_or parts 0 part → part_text part ++ flat_map marked_part (drop 1 parts) ≡ string_text parts
unfolding string_text
string_some [] part some is = absurd (omega (arith, some))
string_some (p ∷ ps) part some is =
    ap (λ x. part_text x ++ flat_map marked_part ps) is ∙ ap (λ t. part_text p ++ t) (sym (parts_marked ps))

-- all items of a list but the first
abbrev pub others_of : {X : Type 0} → List X → List X
others_of xs = take (length xs - 1) (drop 1 xs)

pub string_front : (front : List ℕ) (parts : List Part) (part : Part) → 0 < length parts → part ≡ get_or parts 0 part → (front ++ part_text part) ++ flat_map marked_part (others_of parts) ≡ front ++ string_text parts
string_front front parts part some is =
    append_assoc front (part_text part) (flat_map marked_part (others_of parts))
    ∙ ap (λ ps. front ++ (part_text part ++ flat_map marked_part ps)) (take_rest parts 1)
    ∙ ap (λ t. front ++ t) (string_some parts part some is)

-- Without strings nothing is written. Otherwise the first is written without a mark, and the others
-- after their marks.
pub strings_none : (front : List ℕ) (strings : List (List Part)) → length strings ≤ 0 → front ≡ front ++ separated (codes ", ") string_text strings
strings_none front [] none = sym (append-nil front)
strings_none front (s ∷ ss) none = absurd (omega (arith, none))

pub strings_front : (front : List ℕ) (strings : List (List Part)) (string : List Part) → slice_get strings 0 ≡ Some string → (front ++ string_text string) ++ flat_map marked_string (drop 1 strings) ≡ front ++ separated (codes ", ") string_text strings
strings_front front [] string is = cc
strings_front front (s ∷ ss) string is =
    let same : s ≡ string = cc in
    append_assoc front (string_text string) (flat_map marked_string ss)
    ∙ ap (λ t. front ++ (string_text t ++ flat_map marked_string ss)) (sym same)
    ∙ ap (λ t. front ++ (string_text s ++ t)) (sym (strings_marked ss))

abbrev pub opened : List (List Part) → List ℕ
opened strings = codes "[" ++ separated (codes ", ") string_text strings

pub list_whole : (front : List ℕ) (strings : List (List Part)) → (front ++ opened strings) ++ codes "]" ≡ front ++ list_text strings
unfolding list_text
list_whole front strings = append_assoc front (opened strings) (codes "]")

-- the words of modifiers are those of each modifier in turn, and a space
pub modifiers_text : (m : Modifiers) (case first quotes length : List ℕ) → case ≡ case_word m.letter_case → first ≡ first_word m.first_letter → quotes ≡ given_word m.quote_wildcard (codes " quotewildcard") → length ≡ given_word m.length (codes " length")
    → modifier_words m ≡ case ++ (first ++ (quotes ++ (length ++ (codes " " ++ []))))
unfolding modifier_words
modifiers_text m case first quotes length c f q l = rw (c, f, q, l) (simp append_assoc)
