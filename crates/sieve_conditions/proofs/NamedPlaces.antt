-- The places of the fields of a name.
use Rattle.std.proofs.Common.{◌≡◌, ◌<◌, ◌≤◌, ◌+◌, ◌-◌, ◌^◌, ℕ, zero, suc, arith, true, false, List, [], ◌∷◌, length, map, Some, sym, ap, ◌∙◌}
use Rattle.std.specs.List.{slice_get}
use Rattle.match_text.specs.Comparator.{ascii_casemap, same}
use Rattle.flag_lists.specs.view.Hashing.{same_equiv}
use Rattle.message_text.specs.Fields.{Field, IsNextNamed, fields_of, is_field_named, names_of}
use Rattle.sieve_conditions.specs.declared.field_cache.NamedPlace.{NamedPlace}
use Rattle.sieve_conditions.specs.view.FieldCache.{IsNamedPlace}

-- names that are the same as one text are names of the same fields
names_agree : (text a b : List ℕ) → same ascii_casemap text a ≡ true → same ascii_casemap text b ≡ true → (field : Field) → is_field_named a field ≡ is_field_named b field
names_agree text a b first second field =
    same_equiv.symm field.name a
    ∙ sym (same_equiv.congr text a field.name first)
    ∙ same_equiv.congr text b field.name second
    ∙ same_equiv.symm b field.name

-- two names of one field are names of the same fields
agree : (fields : List Field) (a b : List ℕ) (i : ℕ) → slice_get (map (is_field_named a) fields) i ≡ Some true → slice_get (map (is_field_named b) fields) i ≡ Some true
    → (field : Field) → is_field_named a field ≡ is_field_named b field
agree [] a b i first second field = absurd cc
agree (x ∷ fields) a b zero first second field =
    let one : same ascii_casemap x.name a ≡ true = cc in
    let two : same ascii_casemap x.name b ≡ true = cc in
    names_agree x.name a b one two field
agree (x ∷ fields) a b (suc i) first second field = agree fields a b i first second field

fails_too : (fields : List Field) (a b : List ℕ) → ((field : Field) → is_field_named a field ≡ is_field_named b field) → (k : ℕ) → slice_get (map (is_field_named a) fields) k ≡ Some false → slice_get (map (is_field_named b) fields) k ≡ Some false
fails_too [] a b so k at = absurd cc
fails_too (x ∷ fields) a b so zero at = ap Some (sym (so x)) ∙ at
fails_too (x ∷ fields) a b so (suc k) at = fails_too fields a b so k at

-- the first field of a name is kept for each name that it has
pub is_named_place : (message name : List ℕ) (first next : ℕ) → IsNextNamed (fields_of message) name 0 first → first < 2 ^ 64 - 1 → first < next
    → ((k : ℕ) → first + 1 ≤ k → k < next → slice_get (map (is_field_named name) (fields_of message)) k ≡ Some false) → IsNamedPlace message (record { first = first; next = next })
is_named_place message name first next is countable ordered fail =
    let fields = fields_of message in
    record {
      before = λ other at k below. fails_too fields name other (agree fields name other first is.is at) k (is.others k (omega arith) below);
      after = λ other at k low high. fails_too fields name other (agree fields name other first is.is at) k (fail k (omega arith) high);
      within = is.within;
      countable = countable;
      ordered = ordered;
    }

named_so : (fields : List Field) (written name : List ℕ) (i : ℕ) → same ascii_casemap written name ≡ true → slice_get (map (λ field. field.name) fields) i ≡ Some written → slice_get (map (is_field_named name) fields) i ≡ Some true
named_so [] written name i is at = absurd cc
named_so (x ∷ fields) written name zero is at = let e : x.name ≡ written = cc in ap (λ text. Some (same ascii_casemap text name)) e ∙ ap Some is
named_so (x ∷ fields) written name (suc i) is at = named_so fields written name i is at

-- a field that is kept as the first of its name is the first of each equal name
pub first_written : (message written name : List ℕ) (named : NamedPlace) → IsNamedPlace message named → slice_get (names_of message) named.first ≡ Some written → same ascii_casemap written name ≡ true → IsNextNamed (fields_of message) name 0 named.first
first_written message written name named is at so =
    let there = named_so (fields_of message) written name named.first so at in
    record {
      after = omega arith;
      within = is.within;
      is = there;
      others = λ k low high. is.before name there k high;
    }
