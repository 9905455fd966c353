-- When ids, and names of scripts, are the same.
use Rattle.std.proofs.Common.{◌≡◌, ℕ, List, [], ◌∷◌, Bool, true, false, ◌&&◌, cond, Option, None, Some, nat_eq, refl, sym, ◌∙◌}
use Rattle.std.proofs.lemmas.Map.Lookups.{CmpEqualImpliesEq, exact_bytes}
use Rattle.std.specs.BTreeMap as tree
use Rattle.std.specs.Cmp.Lexicographic.{bytes_decides, nat_list_eq_equiv, slice_cmp}
use Rattle.std.specs.Map.{lookup}
use Rattle.std.specs.Ordering.{nat_cmp, ordering_then, match_ordering, is_eq}
use Rattle.std.specs.declared.cmp.Ordering.{Ordering}
use Rattle.std.specs.declared.cmp.Ordering.TheVariants.{Less, Equal, Greater}
use lib.Pointwise.{pointwise}
use Rattle.script_names.specs.declared.location.Location.{Location}
use Rattle.script_names.specs.declared.location.Location.TheVariants.{Personal, Global}
use Rattle.script_names.specs.Name.{name_cmp, name_eq, location_cmp, location_eq}
use Rattle.script_names.specs.declared.name.ScriptName.{ScriptName}
use Rattle.bench.specs.Content.{text_at, with_renamed, with_script, without_script}

-- IDS

pub same_id : (id : List ℕ) → pointwise nat_eq id id ≡ true
same_id id = nat_list_eq_equiv.refl id

pub is_id : (id other : List ℕ) → pointwise nat_eq id other ≡ true → id ≡ other
is_id id other is = (bytes_decides id other).0 is

pub other_id : (id other : List ℕ) → pointwise nat_eq id other ≡ false → pointwise nat_eq other id ≡ false
other_id id other apart = nat_list_eq_equiv.symm other id ∙ apart

-- NAMES

same_location : (location : Location) → location_eq location location ≡ true
same_location Personal = refl
same_location Global = refl

is_location : (a b : Location) → location_eq a b ≡ true → a ≡ b
is_location Personal Personal is = refl
is_location Personal Global is = absurd cc
is_location Global Personal is = absurd cc
is_location Global Global is = refl

tied_locations : (a b : Location) → location_cmp a b ≡ Equal → a ≡ b
tied_locations Personal Personal is = refl
tied_locations Personal Global is = absurd cc
tied_locations Global Personal is = absurd cc
tied_locations Global Global is = refl

pub same_name : (name : ScriptName) → name_eq name name ≡ true
same_name name = by (location_eq name.location name.location) (same_location name.location)
  where
    by : (b : Bool) → b ≡ true → (b && pointwise nat_eq name.name name.name) ≡ true
    by true is = same_id name.name
    by false is = is

pub is_name : (a b : ScriptName) → name_eq a b ≡ true → a ≡ b
is_name a b is = by (location_eq a.location b.location) refl is
  where
    by : (v : Bool) → location_eq a.location b.location ≡ v → (v && pointwise nat_eq a.name b.name) ≡ true → a ≡ b
    by true p is = let location = is_location a.location b.location p in let name = is_id a.name b.name is in λ i. record { location = location i; name = name i }
    by false p is = absurd cc

-- names that no order tells apart are the same
pub tied_names : CmpEqualImpliesEq name_cmp
tied_names a b is = by (location_cmp a.location b.location) refl is
  where
    by : (r : Ordering) → location_cmp a.location b.location ≡ r → ordering_then r (slice_cmp nat_cmp a.name b.name) ≡ Equal → a ≡ b
    by Less p is = absurd cc
    by Greater p is = absurd cc
    by Equal p is = let location = tied_locations a.location b.location p in let name = exact_bytes a.name b.name is in λ i. record { location = location i; name = name i }

-- TEXTS AT OTHER NAMES

-- a name isn't at the place of another name
elsewhere : (name other : ScriptName) → name_eq name other ≡ false → tree.is_at (name_cmp other) name ≡ false
elsewhere name other apart = by (name_cmp other name) refl
  where
    by : (r : Ordering) → name_cmp other name ≡ r → is_eq r ≡ false
    by Less is = refl
    by Greater is = refl
    by Equal is = let e : other ≡ name = tied_names other name is in absurd (let f : name_eq name name ≡ false = rw e at apart in let t = same_name name in cc)

-- another name has the text that it had, where a text is put at a name
pub text-with_script : (name : ScriptName) (text : List ℕ) (other : ScriptName) (scripts : List (ScriptName × List ℕ)) → name_eq name other ≡ false → text_at (with_script name text scripts) other ≡ text_at scripts other
text-with_script name text other [] apart = rw (elsewhere name other apart) refl
text-with_script name text other (e ∷ es) apart = by (name_cmp name e.0) refl (text-with_script name text other es apart)
  where
    by : (r : Ordering) → name_cmp name e.0 ≡ r → text_at (with_script name text es) other ≡ text_at es other
        → lookup (tree.is_at (name_cmp other)) (match_ordering r ((name, text) ∷ e ∷ es) ((e.0, text) ∷ es) (e ∷ with_script name text es)) ≡ text_at (e ∷ es) other
    by Less is rest = rw (elsewhere name other apart) refl
    by Equal is rest = let same : name ≡ e.0 = tied_names name e.0 is in let there : tree.is_at (name_cmp other) e.0 ≡ false = rw (← same) (elsewhere name other apart) in rw there refl
    by Greater is rest = rw rest refl

-- another name has the text that it had, where a script is removed
pub text-without_script : (name other : ScriptName) (scripts : List (ScriptName × List ℕ)) → name_eq name other ≡ false → text_at (without_script name scripts) other ≡ text_at scripts other
text-without_script name other [] apart = refl
text-without_script name other (e ∷ es) apart = by (name_cmp name e.0) refl (text-without_script name other es apart)
  where
    by : (r : Ordering) → name_cmp name e.0 ≡ r → text_at (without_script name es) other ≡ text_at es other
        → lookup (tree.is_at (name_cmp other)) (cond (is_eq r) es (e ∷ without_script name es)) ≡ text_at (e ∷ es) other
    by Less is rest = rw rest refl
    by Equal is rest = let same : name ≡ e.0 = tied_names name e.0 is in let there : tree.is_at (name_cmp other) e.0 ≡ false = rw (← same) (elsewhere name other apart) in rw there refl
    by Greater is rest = rw rest refl

-- A SCRIPT THAT IS RENAMED

-- the scripts with a text, where there is one, at a new name too
abbrev pub copied_to : ScriptName → Option (List ℕ) → List (ScriptName × List ℕ) → List (ScriptName × List ℕ)
copied_to to None scripts = scripts
copied_to to (Some text) scripts = with_script to text scripts

pub text-copied : (to : ScriptName) (found : Option (List ℕ)) (other : ScriptName) (scripts : List (ScriptName × List ℕ)) → name_eq to other ≡ false → text_at scripts other ≡ text_at (copied_to to found scripts) other
text-copied to None other scripts apart = refl
text-copied to (Some text) other scripts apart = sym (text-with_script to text other scripts apart)

-- another name than the old one has the same text after a copy as after a rename
pub text-renamed : (from : ScriptName) (found : Option (List ℕ)) (to other : ScriptName) (scripts : List (ScriptName × List ℕ)) → name_eq from other ≡ false
    → text_at (copied_to to found scripts) other ≡ text_at (with_renamed from found to scripts) other
text-renamed from None to other scripts apart = refl
text-renamed from (Some text) to other scripts apart = sym (text-without_script from other (with_script to text scripts) apart)
