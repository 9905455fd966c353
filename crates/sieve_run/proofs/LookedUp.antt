-- Names that were looked up, as the entries of a map.
use Rattle.std.proofs.Common.{◌≡◌, Bool, true, false, ◌||◌, List, [], ◌∷◌, ◌++◌, is_some, Some, cond, if◌then◌else◌, refl, sym, ap, ◌∙◌, rules}
use Rattle.std.specs.Map.{lookup}
use Rattle.indexmap.specs.IndexMap as ordered
use Rattle.script_names.specs.Name.{name_eq}
use Rattle.sieve_run.specs.Run.{is_looked_up, with_lookup}
use Rattle.script_names.specs.declared.name.ScriptName.{ScriptName}
use Rattle.script_names.specs.contracts.name.ScriptNamePartialEq.TheImpl as equality

-- names are compared by the test of their type, which is that of the definition
pub names_alike : (a b : ScriptName) → equality.eq-value.it a b ≡ name_eq a b
names_alike a b = search rules

-- a name is found exactly if it was looked up
pub found_is_looked_up : (is : ScriptName → Bool) (name : ScriptName) (lookups : List (ScriptName × Bool)) → ((other : ScriptName) → is other ≡ name_eq name other) → is_some (lookup is lookups) ≡ is_looked_up name lookups
found_is_looked_up is name [] same = refl
found_is_looked_up is name ((other, there) ∷ lookups) same =
    by (is other) (found_is_looked_up is name lookups same) ∙ ap (λ b. b || is_looked_up name lookups) (same other)
  where
    by : (b : Bool) → is_some (lookup is lookups) ≡ is_looked_up name lookups → is_some (cond b (Some there) (lookup is lookups)) ≡ (b || is_looked_up name lookups)
    by true rest = refl
    by false rest = rest

-- a name that wasn't looked up is put at the end
insert_lookup : (eq : ScriptName → ScriptName → Bool) (name : ScriptName) (there : Bool) (lookups : List (ScriptName × Bool)) → is_some (lookup (eq name) lookups) ≡ false → ordered.insert_entry eq lookups name there ≡ lookups ++ (name, there) ∷ []
insert_lookup eq name there [] none = refl
insert_lookup eq name there ((other, old) ∷ lookups) none = by (eq name other) none (insert_lookup eq name there lookups)
  where
    by : (b : Bool) → is_some (cond b (Some old) (lookup (eq name) lookups)) ≡ false → (is_some (lookup (eq name) lookups) ≡ false → ordered.insert_entry eq lookups name there ≡ lookups ++ (name, there) ∷ [])
        → (if b then (other, there) ∷ lookups else (other, old) ∷ ordered.insert_entry eq lookups name there) ≡ (other, old) ∷ lookups ++ (name, there) ∷ []
    by true none rest = absurd cc
    by false none rest = ap (λ entries. (other, old) ∷ entries) (rest none)

-- if one of the names that were looked up is looked up again, they stay as they are
pub lookup_stays : (name : ScriptName) (there : Bool) (lookups : List (ScriptName × Bool)) → is_looked_up name lookups ≡ true → lookups ≡ with_lookup name there lookups
lookup_stays name there lookups is = sym (ap (λ b. if b then lookups else lookups ++ (name, there) ∷ []) is)

-- a lookup of a name that wasn't looked up is recorded
pub lookup_is_new : (eq : ScriptName → ScriptName → Bool) (name other : ScriptName) (there : Bool) (lookups new : List (ScriptName × Bool)) → is_some (lookup (eq name) lookups) ≡ false → is_looked_up name lookups ≡ false → other ≡ name
    → new ≡ ordered.insert_entry eq lookups other there → new ≡ with_lookup name there lookups
lookup_is_new eq name other there lookups new none is same made =
    made ∙ ap (λ n. ordered.insert_entry eq lookups n there) same
    ∙ insert_lookup eq name there lookups none
    ∙ sym (ap (λ b. if b then lookups else lookups ++ (name, there) ∷ []) is)
