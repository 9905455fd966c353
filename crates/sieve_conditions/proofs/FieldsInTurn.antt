-- The fields of a name, and those that a test looks at, one after another.
use Rattle.std.proofs.Common.{◌≡◌, ℕ, zero, suc, ◌+◌, ◌<◌, ◌≤◌, arith, Bool, true, false, ◌&&◌, List, [], ◌∷◌, ◌++◌, map, filter, length, drop, cond, Option, None, Some, refl, sym, ap, ◌∙◌, add-one, append-nil}
use Rattle.std.specs.Prelude.{IfNone, IfSome}
use Rattle.std.specs.List.{flat_map, fold, list_all, slice_get}
use Rattle.std.proofs.lemmas.Grind.{fold-append}
use Rattle.message_text.specs.Fields.{Field, IsNextNamed, fields_of, is_field_named}
use Rattle.message_text.specs.declared.addressing.AddressPart.{AddressPart}
use Rattle.packed_strings.proofs.Joining.{get_map}
use Rattle.sieve_conditions.specs.Matching.{fields_looked_at, fields_named, is_looked_at}
use Rattle.sieve_conditions.specs.view.FieldCache.{IsNextField}

-- ELEMENTS AT THEIR PLACES

-- if there is an element at a place, a statement that holds of it holds
there : {X : Type 0} {P : Type 0} (xs : List X) (i : ℕ) → i < length xs → ((x : X) → slice_get xs i ≡ Some x → P) → P
there [] i low so = absurd (omega arith)
there (x ∷ xs) zero low so = so x refl
there (x ∷ xs) (suc i) low so = there xs i (omega arith) so

-- the elements from a place on are the one that is there and those after it
pub from_place : {X : Type 0} (xs : List X) (i : ℕ) (x : X) → slice_get xs i ≡ Some x → drop i xs ≡ x ∷ drop (i + 1) xs
from_place {X = X} xs i x at = by xs i at ∙ ap (λ n. x ∷ drop n xs) (sym (add-one i))
  where
    by : (ys : List X) (k : ℕ) → slice_get ys k ≡ Some x → drop k ys ≡ x ∷ drop (suc k) ys
    by [] k is = cc
    by (y ∷ ys) zero is = let same : y ≡ x = cc in ap (λ z. z ∷ ys) same
    by (y ∷ ys) (suc k) is = by ys k is

module _ {X : Type 0} (p : X → Bool) where
  -- elements that fail are left out
  pub past_failing : (xs : List X) (i j : ℕ) → i ≤ j → ((k : ℕ) → i ≤ k → k < j → slice_get (map p xs) k ≡ Some false) → filter p (drop j xs) ≡ filter p (drop i xs)
  past_failing [] zero zero ordered fail = refl
  past_failing [] zero (suc j) ordered fail = refl
  past_failing [] (suc i) zero ordered fail = refl
  past_failing [] (suc i) (suc j) ordered fail = refl
  past_failing (y ∷ ys) zero zero ordered fail = refl
  past_failing (y ∷ ys) zero (suc j) ordered fail =
      let fails : p y ≡ false = (let first = fail 0 (omega arith) (omega arith) in cc) in
      past_failing ys zero j (omega arith) (λ k low high. fail (suc k) (omega arith) (omega arith)) ∙ sym (ap (λ b. cond b (y ∷ filter p ys) (filter p ys)) fails)
  past_failing (y ∷ ys) (suc i) zero ordered fail = absurd (omega arith)
  past_failing (y ∷ ys) (suc i) (suc j) ordered fail = past_failing ys i j (omega arith) (λ k low high. fail (suc k) (omega arith) (omega arith))

  -- an element that passes is followed by those after it that pass
  passes_at : (xs : List X) (i : ℕ) (x : X) → slice_get xs i ≡ Some x → slice_get (map p xs) i ≡ Some true → filter p (drop i xs) ≡ x ∷ filter p (drop (i + 1) xs)
  passes_at xs i x at is =
      let passes : p x ≡ true = (let same = sym (get_map p xs i x at) ∙ is in cc) in
      ap (filter p) (from_place xs i x at) ∙ ap (λ b. cond b (x ∷ filter p (drop (i + 1) xs)) (filter p (drop (i + 1) xs))) passes

  -- if all that are left fail, none passes
  none_pass : (xs : List X) (start : ℕ) → ((k : ℕ) → start ≤ k → k < length xs → slice_get (map p xs) k ≡ Some false) → filter p (drop start xs) ≡ []
  none_pass [] zero fail = refl
  none_pass [] (suc start) fail = refl
  none_pass (y ∷ ys) zero fail =
      let fails : p y ≡ false = (let first = fail 0 (omega arith) (omega arith) in cc) in
      ap (λ b. cond b (y ∷ filter p ys) (filter p ys)) fails ∙ none_pass ys zero (λ k low high. fail (suc k) (omega arith) (omega arith))
  none_pass (y ∷ ys) (suc start) fail = none_pass ys start (λ k low high. fail (suc k) (omega arith) (omega arith))

-- FIELDS OF A NAME

module _ (message name : List ℕ) (start : ℕ) where
  pub next_field : (i : ℕ) → IsNextNamed (fields_of message) name start i → IsNextField message name start i
  next_field i next = there (fields_of message) i next.within (λ field at. record {
    field = field;
    at = at;
    next = next;
    rest = sym (past_failing (is_field_named name) (fields_of message) start i next.after next.others)
        ∙ passes_at (is_field_named name) (fields_of message) i field at next.is;
  })

  pub next_if_some : (found : Option ℕ) → IfSome found (IsNextNamed (fields_of message) name start) → IfSome found (IsNextField message name start)
  next_if_some None some = some
  next_if_some (Some i) some = next_field i some

  pub none_if_none : (found : Option ℕ) → IfNone found ((k : ℕ) → start ≤ k → k < length (fields_of message) → slice_get (map (is_field_named name) (fields_of message)) k ≡ Some false)
      → IfNone found (fields_named (drop start (fields_of message)) name ≡ [])
  none_if_none None none = none_pass (is_field_named name) (fields_of message) start none
  none_if_none (Some i) none = none

-- FIELDS THAT A TEST LOOKS AT

module _ (part : Option AddressPart) (fields : List Field) where
  -- the fields looked at for one name that is looked at are those of the name
  pub looked_at : (name : List ℕ) → is_looked_at part name ≡ true → fields_looked_at part fields (name ∷ []) ≡ fields_named fields name
  looked_at name is = ap (λ b. flat_map (fields_named fields) (cond b (name ∷ []) [])) is ∙ append-nil (fields_named fields name)

  -- the fields looked at are those of the first name, and then those of the others
  first_name : (name : List ℕ) (names : List (List ℕ)) → fields_looked_at part fields (name ∷ names) ≡ fields_looked_at part fields (name ∷ []) ++ fields_looked_at part fields names
  first_name name names = by (is_looked_at part name)
    where
      by : (b : Bool) → flat_map (fields_named fields) (cond b (name ∷ filter (is_looked_at part) names) (filter (is_looked_at part) names))
          ≡ flat_map (fields_named fields) (cond b (name ∷ []) []) ++ fields_looked_at part fields names
      by true = ap (λ l. l ++ fields_looked_at part fields names) (sym (append-nil (fields_named fields name)))
      by false = refl

  -- Visiting the fields looked at for the names from a place on visits those of the name there
  -- first. Then it visits those of the names after it.
  pub visited_on : {S : Type 0} (after : S → Field → S) (names : List (List ℕ)) (i : ℕ) (name : List ℕ) (visitor : S) → slice_get names i ≡ Some name
      → fold after (fold after visitor (fields_looked_at part fields (name ∷ []))) (fields_looked_at part fields (drop (i + 1) names)) ≡ fold after visitor (fields_looked_at part fields (drop i names))
  visited_on after names i name visitor at =
      sym (fold-append after visitor (fields_looked_at part fields (name ∷ [])) (fields_looked_at part fields (drop (i + 1) names)))
      ∙ ap (fold after visitor) (sym (first_name name (drop (i + 1) names)))
      ∙ ap (λ l. fold after visitor (fields_looked_at part fields l)) (sym (from_place names i name at))

-- a visitor that has seen enough stays as it is
pub stays : {S : Type 0} (after : S → Field → S) (visitor : S) → ((field : Field) → after visitor field ≡ visitor) → (fields : List Field) → fold after visitor fields ≡ visitor
stays after visitor rests [] = refl
stays after visitor rests (field ∷ fields) = ap (λ v. fold after v fields) (rests field) ∙ stays after visitor rests fields

-- WHETHER FIELDS ARE THERE

-- the one that is there, or those after it, decide whether all names from a place on pass
module _ {X : Type 0} (has : X → Bool) (names : List X) (i : ℕ) (name : X) (b : Bool) (so : list_all has (drop i names) ≡ b) (at : slice_get names i ≡ Some name) where
  split : (has name && list_all has (drop (i + 1) names)) ≡ b
  split = sym (ap (list_all has) (from_place names i name at)) ∙ so

  pub name_fails : has name ≡ false → false ≡ b
  name_fails is = sym (ap (λ p. p && list_all has (drop (i + 1) names)) is) ∙ split

  pub name_passes : has name ≡ true → list_all has (drop (i + 1) names) ≡ b
  name_passes is = sym (ap (λ p. p && list_all has (drop (i + 1) names)) is) ∙ split
