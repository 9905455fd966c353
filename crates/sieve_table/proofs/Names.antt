-- The names of the table and of the capabilities. Each thing is found by its name, which
-- no other has.
use Rattle.std.proofs.Common.{◌≡◌, ℕ, Bool, true, false, not, ◌&&◌, ◌||◌, cond, nat_eq, List, [], ◌∷◌, ◌++◌, Option, None, Some, is_none, filter, find, map, refl, sym, ap, ◌∙◌, arith}
use Rattle.std.proofs.lemmas.Bool.{and_parts}
use Rattle.std.proofs.lemmas.Bool.Decides.{nat_tests}
use Rattle.std.specs.List.{list_all, list_any}
use Rattle.sieve_profile.specs.Profile.{Profile}
use lib.Pointwise.{pointwise}
use denote.Enum.Bare.{Bare, same_true, sameb}
use denote.Enum.Declared.{Record, declared}
use Rattle.sieve_table.specs.Capability.{capabilities, capability_name, capability_named, is_name_of, same_capability}
use Rattle.sieve_table.specs.Known.{is_known, names_known}
use Rattle.sieve_table.specs.Table.{command_named, command_row, commands, same_tag, tag_named, tag_row, test_named, test_row, tests}
use Rattle.sieve_table.specs.contracts.capability.Capability as every_capability
use Rattle.sieve_table.specs.contracts.table.CommandKind as every_command
use Rattle.sieve_table.specs.contracts.tag.Tag as every_tag
use Rattle.sieve_table.specs.contracts.table.TestKind as every_test
use Rattle.sieve_table.specs.declared.capability.Capability.{Capability}
use Rattle.sieve_table.specs.declared.table.CommandKind.{CommandKind}
use Rattle.sieve_table.specs.declared.tag.Tag.{Tag}
use Rattle.sieve_table.specs.declared.table.TestKind.{TestKind}
use Rattle.sieve_profile.proofs.Each.{of_each}

abbrev is_found : (E : Record) → E.D → Option E.D → Bool
is_found E x None = false
is_found E x (Some y) = sameb (declared E) y x

found : (E : Record) (bare : Bare E.parts) (x : E.D) (o : Option E.D) → is_found E x o ≡ true → o ≡ Some x
found E bare x None is = absurd (never is)
  where
    never : false ≡ true → ⊥
    never e = cc
found E bare x (Some y) is = ap Some (same_true (declared E) bare y x is)

pub command_found : (kind : CommandKind) → command_named (command_row kind).name ≡ Some kind
unfolding command_named
command_found kind = found every_command.enum tt kind (command_named (command_row kind).name) (of_each every_command.enum tt (λ k. is_found every_command.enum k (command_named (command_row k).name)) refl kind)

pub test_found : (kind : TestKind) → test_named (test_row kind).name ≡ Some kind
unfolding test_named
test_found kind = found every_test.enum tt kind (test_named (test_row kind).name) (of_each every_test.enum tt (λ k. is_found every_test.enum k (test_named (test_row k).name)) refl kind)

-- whether each of some tags is found among all by the name of its row
abbrev are_found : (tags all : List Tag) → Bool
are_found tags all = list_all (λ tag. is_found every_tag.enum tag (tag_named all (tag_row tag).name)) tags

tags_found : (tags all : List Tag) → are_found tags all ≡ true → map (λ tag. tag_named all (tag_row tag).name) tags ≡ map Some tags
tags_found [] all is = refl
tags_found (tag ∷ tags) all is =
    let parts = and_parts (is_found every_tag.enum tag (tag_named all (tag_row tag).name)) (are_found tags all) is in
    let first = found every_tag.enum tt tag (tag_named all (tag_row tag).name) parts.0 in
    let rest = tags_found tags all parts.1 in
    (λ i. first i ∷ rest i)

pub command_tags_found : (kind : CommandKind) → map (λ tag. tag_named (command_row kind).tags (tag_row tag).name) (command_row kind).tags ≡ map Some (command_row kind).tags
command_tags_found kind = tags_found (command_row kind).tags (command_row kind).tags (of_each every_command.enum tt (λ k. are_found (command_row k).tags (command_row k).tags) refl kind)

pub test_tags_found : (kind : TestKind) → map (λ tag. tag_named (test_row kind).tags (tag_row tag).name) (test_row kind).tags ≡ map Some (test_row kind).tags
test_tags_found kind = tags_found (test_row kind).tags (test_row kind).tags (of_each every_test.enum tt (λ k. are_found (test_row k).tags (test_row k).tags) refl kind)

pub tag_taken : (tag : Tag) → list_any (λ tags. list_any (same_tag tag) tags) (map (λ kind. (command_row kind).tags) commands ++ map (λ kind. (test_row kind).tags) tests) ≡ true
tag_taken tag = of_each every_tag.enum tt (λ t. list_any (λ tags. list_any (same_tag t) tags) (map (λ kind. (command_row kind).tags) commands ++ map (λ kind. (test_row kind).tags) tests)) refl tag

abbrev is_alone : Capability → List Capability → Bool
is_alone c [] = false
is_alone c (d ∷ []) = sameb every_capability.the_type d c
is_alone c (d ∷ e ∷ more) = false

alone : (c : Capability) (named : List Capability) → is_alone c named ≡ true → named ≡ c ∷ []
alone c [] is = absurd (never is)
  where
    never : false ≡ true → ⊥
    never e = cc
alone c (d ∷ []) is = ap (λ x. x ∷ []) (same_true every_capability.the_type tt d c is)
alone c (d ∷ e ∷ more) is = absurd (never is)
  where
    never : false ≡ true → ⊥
    never e = cc

pub capability_alone : (capability : Capability) → filter (is_name_of (capability_name capability)) capabilities ≡ capability ∷ []
capability_alone capability = alone capability (filter (is_name_of (capability_name capability)) capabilities) (of_each every_capability.enum tt (λ c. is_alone c (filter (is_name_of (capability_name c)) capabilities)) refl capability)

or_false : (b : Bool) → (b || false) ≡ b
or_false true = refl
or_false false = refl

-- some of a list pass both tests where some of those that pass the first pass the second
any_both : {X : Type 0} (p q : X → Bool) (xs : List X) → list_any (λ x. p x && q x) xs ≡ list_any q (filter p xs)
any_both p q [] = refl
any_both p q (x ∷ xs) = by_test (p x) (any_both p q xs)
  where
    by_test : (is : Bool) → list_any (λ x. p x && q x) xs ≡ list_any q (filter p xs) → ((is && q x) || list_any (λ x. p x && q x) xs) ≡ list_any q (cond is (x ∷ filter p xs) (filter p xs))
    by_test true rest = ap (λ b. q x || b) rest
    by_test false rest = rest

pub capability_found : (profile : Profile) (capability : Capability) → names_known profile (capability_name capability) ≡ is_known profile capability
capability_found profile capability =
    any_both (is_name_of (capability_name capability)) (is_known profile) capabilities
    ∙ ap (list_any (is_known profile)) (capability_alone capability)
    ∙ or_false (is_known profile capability)

-- THE CAPABILITY THAT A STRING NAMES

same_octets : (a b : List ℕ) → pointwise nat_eq a b ≡ true → a ≡ b
same_octets [] [] is = refl
same_octets [] (y ∷ b) is = absurd (never is)
  where
    never : false ≡ true → ⊥
    never e = cc
same_octets (x ∷ a) [] is = absurd (never is)
  where
    never : false ≡ true → ⊥
    never e = cc
same_octets (x ∷ a) (y ∷ b) is =
    let parts = and_parts (nat_eq x y) (pointwise nat_eq a b) is in
    let first : x ≡ y = grind (arith, nat_tests) in
    let rest : a ≡ b = same_octets a b parts.1 in
    cc

abbrev agree : Bool → Bool → Bool
agree true b = b
agree false b = not b

one_answer : (a b : Bool) → agree a b ≡ true → a ≡ b
one_answer true b e = sym e
one_answer false true e = absurd (never e)
  where
    never : false ≡ true → ⊥
    never e = cc
one_answer false false e = refl

-- a capability's name is that of another where, and only where, both are the same
one_name : (c d : Capability) → is_name_of (capability_name d) c ≡ same_capability d c
one_name c d =
    one_answer (is_name_of (capability_name d) c) (same_capability d c)
    (of_each every_capability.enum tt (λ c. agree (is_name_of (capability_name d) c) (same_capability d c))
    (of_each every_capability.enum tt (λ d. list_all (λ c. agree (is_name_of (capability_name d) c) (same_capability d c)) capabilities) refl d) c)

abbrev pub is_the : Capability → Option Capability → Bool
is_the c None = false
is_the c (Some d) = same_capability d c

finding : (name : List ℕ) (cs : List Capability) → list_all (λ d. not (is_name_of name d)) cs ≡ is_none (find (is_name_of name) cs)
finding name [] = refl
finding name (d ∷ cs) = by_test (is_name_of name d) (finding name cs)
  where
    by_test : (is : Bool) → list_all (λ d. not (is_name_of name d)) cs ≡ is_none (find (is_name_of name) cs) → (not is && list_all (λ d. not (is_name_of name d)) cs) ≡ is_none (cond is (Some d) (find (is_name_of name) cs))
    by_test true rest = refl
    by_test false rest = rest

found_names : (name : List ℕ) (cs : List Capability) (d : Capability) → find (is_name_of name) cs ≡ Some d → is_name_of name d ≡ true
found_names name [] d is = absurd (never is)
  where
    never : None ≡ Some d → ⊥
    never e = cc
found_names name (e ∷ cs) d is = by_test (found_names name cs d) (is_name_of name e) refl is
  where
    one_of : Some e ≡ Some d → e ≡ d
    one_of same = cc

    by_test : (find (is_name_of name) cs ≡ Some d → is_name_of name d ≡ true) → (named : Bool) → is_name_of name e ≡ named → cond named (Some e) (find (is_name_of name) cs) ≡ Some d → is_name_of name d ≡ true
    by_test later true names is = ap (is_name_of name) (sym (one_of is)) ∙ names
    by_test later false names is = later is

-- a string names the capability that is found by it, and no other
pub named_alone : (name : List ℕ) (c : Capability) → is_name_of name c ≡ is_the c (capability_named name)
named_alone name c = by_found (capability_named name) refl
  where
    not_false : (b : Bool) → not b ≡ true → b ≡ false
    not_false true e = absurd (never e)
      where
        never : false ≡ true → ⊥
        never e = cc
    not_false false e = refl

    by_found : (found : Option Capability) → capability_named name ≡ found → is_name_of name c ≡ is_the c found
    by_found None is = not_false (is_name_of name c) (of_each every_capability.enum tt (λ d. not (is_name_of name d)) (finding name capabilities ∙ ap is_none is) c)
    by_found (Some d) is = ap (λ n. is_name_of n c) (sym (same_octets (capability_name d) name (found_names name capabilities d is))) ∙ one_name c d

pub ruleset names = (command_found, test_found, command_tags_found, test_tags_found, tag_taken, capability_found, capability_alone)
