-- Relations, by their words and by the order.
use Rattle.std.proofs.Common.{◌≡◌, ℕ, Bool, true, false, not, ◌||◌, ◌↔◌, if◌then◌else◌, List, Option, None, Some, bytes_eq, refl, sym, ap, ◌∙◌}
use Rattle.std.specs.Str.{str_to_ascii_lowercase}
use Rattle.std.proofs.lemmas.Bool.{false≢true}
use Rattle.std.proofs.lemmas.Slice.Eq.{bytes_eq-Decides}
use Rattle.std.specs.declared.cmp.Ordering.{Ordering}
use Rattle.std.specs.declared.cmp.Ordering.TheVariants.{Less, Equal, Greater}
use Rattle.match_text.specs.declared.relation.Relation.{Relation}
use Rattle.match_text.specs.declared.relation.Relation.TheVariants.{Gt, Ge, Lt, Le, Eq, Ne}
use Rattle.match_text.specs.Relation.{is_word_of, relation_named, relation_word, stands_in}

-- THE ORDER

pub ne_stands : (order : Ordering) → stands_in Ne order ≡ not (stands_in Eq order)
ne_stands Less = refl
ne_stands Equal = refl
ne_stands Greater = refl

pub ge_stands : (order : Ordering) → stands_in Ge order ≡ not (stands_in Lt order)
ge_stands Less = refl
ge_stands Equal = refl
ge_stands Greater = refl

pub le_stands : (order : Ordering) → stands_in Le order ≡ not (stands_in Gt order)
le_stands Less = refl
le_stands Equal = refl
le_stands Greater = refl

pub le_either : (order : Ordering) → stands_in Le order ≡ (stands_in Lt order || stands_in Eq order)
le_either Less = refl
le_either Equal = refl
le_either Greater = refl

pub eq_alone : (order : Ordering) → (stands_in Eq order ≡ true) ↔ (order ≡ Equal)
eq_alone Less = (λ is. absurd (false≢true is), λ is. absurd cc)
eq_alone Equal = (λ is. refl, λ is. refl)
eq_alone Greater = (λ is. absurd (false≢true is), λ is. absurd cc)

-- WORDS

pub word_found : (relation : Relation) → relation_named (relation_word relation) ≡ Some relation
word_found Gt = refl
word_found Ge = refl
word_found Lt = refl
word_found Le = refl
word_found Eq = refl
word_found Ne = refl

-- one relation of the list is found by its word, or else one of the rest is
found_or : (word : List ℕ) (relation this : Relation) (rest : Option Relation) → (rest ≡ Some relation → is_word_of relation word ≡ true)
    → (s : Bool) → is_word_of this word ≡ s → (if s then Some this else rest) ≡ Some relation → is_word_of relation word ≡ true
found_or word relation this rest more true is found =
    let it : this ≡ relation = cc in ap (λ r. is_word_of r word) (sym it) ∙ is
found_or word relation this rest more false is found = more found

none_found : (word : List ℕ) (relation : Relation) → None ≡ Some relation → is_word_of relation word ≡ true
none_found word relation found = absurd cc

found_word : (relation : Relation) (word : List ℕ) → relation_named word ≡ Some relation → is_word_of relation word ≡ true
found_word relation word =
    found_or word relation Gt _
    (found_or word relation Ge _
    (found_or word relation Lt _
    (found_or word relation Le _
    (found_or word relation Eq _
    (found_or word relation Ne None (none_found word relation) (is_word_of Ne word) refl)
    (is_word_of Eq word) refl)
    (is_word_of Le word) refl)
    (is_word_of Lt word) refl)
    (is_word_of Ge word) refl)
    (is_word_of Gt word) refl

-- the relation of a word in small letters
named_by : List ℕ → Option Relation
named_by word =
    if bytes_eq (str_to_ascii_lowercase (relation_word Gt)) word then Some Gt else
    if bytes_eq (str_to_ascii_lowercase (relation_word Ge)) word then Some Ge else
    if bytes_eq (str_to_ascii_lowercase (relation_word Lt)) word then Some Lt else
    if bytes_eq (str_to_ascii_lowercase (relation_word Le)) word then Some Le else
    if bytes_eq (str_to_ascii_lowercase (relation_word Eq)) word then Some Eq else
    if bytes_eq (str_to_ascii_lowercase (relation_word Ne)) word then Some Ne else None

-- a word that is a relation's in any case of letters finds that relation
word_finds : (relation : Relation) (word : List ℕ) → is_word_of relation word ≡ true → relation_named word ≡ Some relation
unfolding named_by
word_finds relation word is =
    let small : str_to_ascii_lowercase (relation_word relation) ≡ str_to_ascii_lowercase word = (bytes_eq-Decides _ _).0 is in
    ap named_by (sym small) ∙ word_found relation

pub named_word : (relation : Relation) (word : List ℕ) → (relation_named word ≡ Some relation) ↔ (is_word_of relation word ≡ true)
named_word relation word = (found_word relation word, word_finds relation word)
