-- A change of the keys of a set of names changes the names alike.
use Rattle.octets.specs.Octet.{is_among}
use Rattle.std.proofs.Common.{◌≡◌, ℕ, List, [], ◌∷◌, ◌++◌, Bool, true, false, ◌||◌, if◌then◌else◌, nat_eq, refl, sym, ap, ◌∙◌}
use Rattle.std.proofs.lemmas.List.{map-append}
use Rattle.std.specs.declared.alloc.Global.{Global}
use Rattle.std.specs.declared.vec.Vec.{Vec}
use Rattle.std.specs.List.{list_any}
use Rattle.indexmap.specs.IndexSet.{insert_key}
use lib.Pointwise.{pointwise}
use Rattle.sieve_variables.specs.view.Names.{names_of}
use Rattle.sieve_variables.specs.Variable.{with_name}

-- a name is among the names where its key is among the keys
among_names : (name : List ℕ) (keys : List (Vec ℕ Global)) → is_among name (names_of keys) ≡ list_any (λ k. pointwise nat_eq name k.items) keys
unfolding names_of
among_names name [] = refl
among_names name (key ∷ keys) = ap (λ b. pointwise nat_eq name key.items || b) (among_names name keys)

names-insert : (keys : List (Vec ℕ Global)) (key : Vec ℕ Global) → names_of (insert_key (λ x y. pointwise nat_eq x.items y.items) keys key) ≡ with_name key.items (names_of keys)
unfolding names_of
names-insert keys key =
    by (list_any (λ k. pointwise nat_eq key.items k.items) keys)
    ∙ ap (λ b. if b then names_of keys else names_of keys ++ key.items ∷ []) (sym (among_names key.items keys))
  where
    by : (b : Bool) → names_of (if b then keys else keys ++ key ∷ []) ≡ (if b then names_of keys else names_of keys ++ key.items ∷ [])
    by true = refl
    by false = map-append (λ k. k.items) keys (key ∷ [])

-- a key is found where its name is among the names
pub has_name : (names : List (List ℕ)) (keys : List (Vec ℕ Global)) (name : List ℕ) (found : Bool) → names_of keys ≡ names → found ≡ list_any (λ k. pointwise nat_eq name k.items) keys → found ≡ is_among name names
has_name names keys name found is says = says ∙ sym (among_names name keys) ∙ ap (is_among name) is

-- a key that is put adds its name
pub put_name : (names : List (List ℕ)) (keys new : List (Vec ℕ Global)) (key : Vec ℕ Global) (name : List ℕ) → names_of keys ≡ names → key.items ≡ name → new ≡ insert_key (λ x y. pointwise nat_eq x.items y.items) keys key → names_of new ≡ with_name name names
put_name names keys new key name is named made =
    ap names_of made ∙ names-insert keys key ∙ ap (λ n. with_name n (names_of keys)) named ∙ ap (with_name name) is
