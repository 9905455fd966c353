-- A change of the entries of a map of variables changes the names with their values alike.
use Rattle.std.proofs.Common.{◌≡◌, ℕ, suc, List, [], ◌∷◌, Bool, true, false, ◌||◌, Some, is_some, nat_lt, length, cond, if◌then◌else◌, nat_eq, refl, sym, ap, ◌∙◌}
use Rattle.std.specs.declared.alloc.Global.{Global}
use Rattle.std.specs.declared.vec.Vec.{Vec}
use Rattle.std.specs.Map.{lookup, set_value}
use Rattle.indexmap.specs.IndexMap as ordered
use lib.Pointwise.{pointwise}
use Rattle.sieve_variables.specs.view.Value.{held_of}
use Rattle.sieve_variables.specs.Value.{has_room_under, is_set_under, with_held}

-- a name is found where its entry is
pub lookup_held : (name : List ℕ) (es : List (Vec ℕ Global × List ℕ)) → lookup (pointwise nat_eq name) (held_of es) ≡ lookup (λ k. pointwise nat_eq name k.items) es
unfolding held_of
lookup_held name [] = refl
lookup_held name ((other, old) ∷ es) = ap (λ found. cond (pointwise nat_eq name other.items) (Some old) found) (lookup_held name es)

-- there are as many names as entries
length-held : (es : List (Vec ℕ Global × List ℕ)) → length (held_of es) ≡ length es
unfolding held_of
length-held [] = refl
length-held ((other, old) ∷ es) = ap suc (length-held es)

-- an entry is put where its name is
held-insert : (es : List (Vec ℕ Global × List ℕ)) (name : Vec ℕ Global) (value : List ℕ)
    → held_of (ordered.insert_entry (λ x y. pointwise nat_eq x.items y.items) es name value) ≡ ordered.insert_entry (pointwise nat_eq) (held_of es) name.items value
unfolding held_of
held-insert [] name value = refl
held-insert ((other, old) ∷ es) name value = by (pointwise nat_eq name.items other.items) (held-insert es name value)
  where
    by : (b : Bool) → held_of (ordered.insert_entry (λ x y. pointwise nat_eq x.items y.items) es name value) ≡ ordered.insert_entry (pointwise nat_eq) (held_of es) name.items value
        → held_of (if b then (other, value) ∷ es else (other, old) ∷ ordered.insert_entry (λ x y. pointwise nat_eq x.items y.items) es name value)
        ≡ (if b then (other.items, value) ∷ held_of es else (other.items, old) ∷ ordered.insert_entry (pointwise nat_eq) (held_of es) name.items value)
    by true rest = refl
    by false rest = ap (λ l. (other.items, old) ∷ l) rest

-- a value that is written to the entry of a set name is put under that name
held-set : (es : List (Vec ℕ Global × List ℕ)) (name value held : List ℕ) → lookup (λ k. pointwise nat_eq name k.items) es ≡ Some held
    → held_of (set_value (λ k. pointwise nat_eq name k.items) es value) ≡ ordered.insert_entry (pointwise nat_eq) (held_of es) name value
unfolding held_of
held-set [] name value held found = cc
held-set ((other, old) ∷ es) name value held found = by (pointwise nat_eq name other.items) found (held-set es name value held)
  where
    by : (b : Bool) → cond b (Some old) (lookup (λ k. pointwise nat_eq name k.items) es) ≡ Some held
        → (lookup (λ k. pointwise nat_eq name k.items) es ≡ Some held → held_of (set_value (λ k. pointwise nat_eq name k.items) es value) ≡ ordered.insert_entry (pointwise nat_eq) (held_of es) name value)
        → held_of (cond b ((other, value) ∷ es) ((other, old) ∷ set_value (λ k. pointwise nat_eq name k.items) es value))
        ≡ (if b then (other.items, value) ∷ held_of es else (other.items, old) ∷ ordered.insert_entry (pointwise nat_eq) (held_of es) name value)
    by true there rest = refl
    by false there rest = ap (λ l. (other.items, old) ∷ l) (rest there)

-- an entry that is put holds its value under its name
pub put_held : (variables : List (List ℕ × List ℕ)) (es new : List (Vec ℕ Global × List ℕ)) (name : Vec ℕ Global) (octets value : List ℕ) → held_of es ≡ variables → name.items ≡ octets
    → new ≡ ordered.insert_entry (λ x y. pointwise nat_eq x.items y.items) es name value → held_of new ≡ with_held octets value variables
put_held variables es new name octets value is named made =
    ap held_of made ∙ held-insert es name value
    ∙ ap (λ n. ordered.insert_entry (pointwise nat_eq) (held_of es) n value) named ∙ ap (with_held octets value) is

-- a value that is written to the entry of a name is held under that name
pub set_held : (variables : List (List ℕ × List ℕ)) (es new : List (Vec ℕ Global × List ℕ)) (name value held : List ℕ) → held_of es ≡ variables
    → lookup (λ k. pointwise nat_eq name k.items) es ≡ Some held → new ≡ set_value (λ k. pointwise nat_eq name k.items) es value → held_of new ≡ with_held name value variables
set_held variables es new name value held is found made =
    ap held_of made ∙ held-set es name value held found ∙ ap (with_held name value) is

-- a name is set where its entry is
pub found_held : (variables : List (List ℕ × List ℕ)) (es : List (Vec ℕ Global × List ℕ)) (name : List ℕ) (found : Bool) → held_of es ≡ variables
    → found ≡ is_some (lookup (λ k. pointwise nat_eq name k.items) es) → is_set_under name variables ≡ found
found_held variables es name found is says =
    ap (λ l. is_some (lookup (pointwise nat_eq name) l)) (sym is) ∙ ap is_some (lookup_held name es) ∙ sym says

-- there is room for a name whose entry is there
pub room_there : (variables : List (List ℕ × List ℕ)) (es : List (Vec ℕ Global × List ℕ)) (name : List ℕ) (found : Bool) → held_of es ≡ variables
    → found ≡ is_some (lookup (λ k. pointwise nat_eq name k.items) es) → found ≡ true → found ≡ has_room_under name variables
room_there variables es name found is says there =
    there ∙ sym (ap (λ b. b || nat_lt (length variables) 128) (found_held variables es name found is says ∙ there))

-- there is room for a name that isn't there exactly where there are fewer than 128 entries
pub room_left : (variables : List (List ℕ × List ℕ)) (es : List (Vec ℕ Global × List ℕ)) (name : List ℕ) (found : Bool) (count : ℕ) → held_of es ≡ variables
    → found ≡ is_some (lookup (λ k. pointwise nat_eq name k.items) es) → found ≡ false → count ≡ length es → nat_lt count 128 ≡ has_room_under name variables
room_left variables es name found count is says missing counted =
    ap (λ n. nat_lt n 128) (counted ∙ sym (length-held es) ∙ ap (λ l. length l) is)
    ∙ sym (ap (λ b. b || nat_lt (length variables) 128) (found_held variables es name found is says ∙ missing))
