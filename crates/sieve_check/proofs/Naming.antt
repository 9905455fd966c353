-- The variables that a text sets are those that the names written in it set.
use Rattle.octets.specs.Octet.{is_among}
use Rattle.std.proofs.Common.{◌≡◌, ℕ, Bool, true, false, not, ◌&&◌, ◌||◌, List, [], ◌∷◌, ◌++◌, map, drop, Option, None, Some, refl, sym, ap, ◌∙◌, append-nil, append_assoc}
use Rattle.std.proofs.lemmas.Grind.{flat_map-append}
use Rattle.std.proofs.lemmas.List.{map-append}
use Rattle.std.proofs.lemmas.List.Elements.{filter_agree}
use Rattle.std.specs.Bool.{one_answer}
use Rattle.std.specs.List.{filter, list_any}
use Rattle.std.specs.Prelude.{if◌then◌else◌, nat_eq}
use Rattle.std.specs.Str.{str_eq_ignore_ascii_case}
use lib.Pointwise.{bytes_decides, pointwise}
use Rattle.sieve_syntax.specs.Tree.{Argument, strings, number, tag, Text, Test, test, Tests, no_tests, one_test, test_list, TestList, end_tests, more_tests, Command, command, Block, no_block, block, CommandList, end_commands, more_commands}
use Rattle.sieve_check.specs.Context.{Context, after, after_block, after_kind, past_commands, inside, script_start}
use Rattle.sieve_check.specs.Element.{Element, among, argument_elements, block_elements, command_arguments, judged_labels, labelled_elements, command_elements, command_list_elements, row_elements, test_arguments, test_elements, test_list_elements, tests_elements, text_elements}
use Rattle.sieve_check.specs.Naming.{Mention, sets, declares, command_mentions, element_mentions, mentions_in, names_in_role, octets_in, set_by, without_name}
use Rattle.sieve_check.specs.Said.{said_arguments}
use Rattle.sieve_check.specs.Scope.{Scope, assigning, assigning_argument, assigning_arguments, assigning_texts, declaring_argument, declaring_texts, is_assigned, no_names, with_declared}
use Rattle.sieve_script.specs.Role.{first_role}
use Rattle.sieve_table.specs.Role.{has_role}
use Rattle.sieve_script.specs.Shape.{known_labels, known_shapes}
use Rattle.sieve_check.specs.Use.{has_block, is_well_used}
use Rattle.sieve_script.specs.declared.label.Label.{Label}
use Rattle.sieve_profile.specs.Profile.{Profile}
use Rattle.sieve_table.specs.Known.{known_command, known_test}
use Rattle.sieve_table.specs.Table.{Row, command_row, test_row}
use Rattle.sieve_table.specs.declared.row.Role.{Role}
use Rattle.sieve_table.specs.declared.row.Role.TheVariants.{NameToSet, NamesToDeclare}
use Rattle.sieve_table.specs.declared.table.CommandKind.{CommandKind}
use Rattle.sieve_table.specs.declared.table.TestKind.{TestKind}
use Rattle.sieve_variables.specs.Name.{folded_name, is_identifier}
use Rattle.sieve_variables.specs.Variable.{with_name}

-- ONE NAME AFTER THE OTHER

abbrev pub mentioned : Scope → Mention → Scope
mentioned scope (sets name) = assigning scope name
mentioned scope (declares name) = record scope { declared = with_name (folded_name name) scope.declared }

abbrev pub after_mentions : Scope → List Mention → Scope
after_mentions scope [] = scope
after_mentions scope (m ∷ ms) = after_mentions (mentioned scope m) ms

pub in_turn : (xs ys : List Mention) (scope : Scope) → after_mentions scope (xs ++ ys) ≡ after_mentions (after_mentions scope xs) ys
in_turn [] ys scope = refl
in_turn (x ∷ xs) ys scope = in_turn xs ys (mentioned scope x)

-- NAMES THAT ARE SET

abbrev octets_of : List Text → List (List ℕ)
octets_of ts = map (λ t. t.string) ts

texts_set : (ts : List Text) (scope : Scope) → assigning_texts scope ts ≡ after_mentions scope (map sets (octets_of ts))
texts_set [] scope = refl
texts_set (t ∷ ts) scope = texts_set ts (assigning scope t.string)

abbrev if_in_role : Bool → Argument → List (List ℕ)
if_in_role b a = if b then octets_in a else []

argument_sets : (a : Argument) (scope : Scope) (role : Option Role) → assigning_argument scope role a ≡ after_mentions scope (map sets (if_in_role (has_role NameToSet role) a))
argument_sets (strings items bracketed) scope role = by_role (has_role NameToSet role)
  where
    by_role : (b : Bool) → (if b then assigning_texts scope items else scope) ≡ after_mentions scope (map sets (if_in_role b (strings items bracketed)))
    by_role true = texts_set items scope
    by_role false = refl
argument_sets (number value line) scope role = by_role (has_role NameToSet role)
  where
    by_role : (b : Bool) → scope ≡ after_mentions scope (map sets (if_in_role b (number value line)))
    by_role true = refl
    by_role false = refl
argument_sets (tag name line) scope role = by_role (has_role NameToSet role)
  where
    by_role : (b : Bool) → scope ≡ after_mentions scope (map sets (if_in_role b (tag name line)))
    by_role true = refl
    by_role false = refl

arguments_set : (args : List Argument) (scope : Scope) (labels : List Label) → assigning_arguments scope labels args ≡ after_mentions scope (map sets (names_in_role NameToSet labels args))
arguments_set [] scope labels = refl
arguments_set (a ∷ args) scope labels =
    let here = if_in_role (has_role NameToSet (first_role labels)) a in
    let rest = names_in_role NameToSet (drop 1 labels) args in
    ap (λ s. assigning_arguments s (drop 1 labels) args) (argument_sets a scope (first_role labels))
    ∙ arguments_set args (after_mentions scope (map sets here)) (drop 1 labels)
    ∙ sym (in_turn (map sets here) (map sets rest) scope)
    ∙ sym (ap (after_mentions scope) (map-append sets here rest))

-- NAMES THAT ARE DECLARED

abbrev declaring : Scope → List (List ℕ) → Scope
declaring scope declared = record scope { declared = declared }

texts_declare : (ts : List Text) (scope : Scope) → declaring scope (declaring_texts scope.declared ts) ≡ after_mentions scope (map declares (octets_of ts))
texts_declare [] scope = refl
texts_declare (t ∷ ts) scope = texts_declare ts (declaring scope (with_name (folded_name t.string) scope.declared))

argument_declares : (a : Argument) (scope : Scope) (role : Option Role) → declaring scope (declaring_argument scope.declared role a) ≡ after_mentions scope (map declares (if_in_role (has_role NamesToDeclare role) a))
argument_declares (strings items bracketed) scope role = by_role (has_role NamesToDeclare role)
  where
    by_role : (b : Bool) → declaring scope (if b then declaring_texts scope.declared items else scope.declared) ≡ after_mentions scope (map declares (if_in_role b (strings items bracketed)))
    by_role true = texts_declare items scope
    by_role false = refl
argument_declares (number value line) scope role = by_role (has_role NamesToDeclare role)
  where
    by_role : (b : Bool) → scope ≡ after_mentions scope (map declares (if_in_role b (number value line)))
    by_role true = refl
    by_role false = refl
argument_declares (tag name line) scope role = by_role (has_role NamesToDeclare role)
  where
    by_role : (b : Bool) → scope ≡ after_mentions scope (map declares (if_in_role b (tag name line)))
    by_role true = refl
    by_role false = refl

arguments_declare : (args : List Argument) (scope : Scope) (labels : List Label) → with_declared scope labels args ≡ after_mentions scope (map declares (names_in_role NamesToDeclare labels args))
arguments_declare [] scope labels = refl
arguments_declare (a ∷ args) scope labels =
    let here = if_in_role (has_role NamesToDeclare (first_role labels)) a in
    let rest = names_in_role NamesToDeclare (drop 1 labels) args in
    ap (λ s. with_declared s (drop 1 labels) args) (argument_declares a scope (first_role labels))
    ∙ arguments_declare args (after_mentions scope (map declares here)) (drop 1 labels)
    ∙ sym (in_turn (map declares here) (map declares rest) scope)
    ∙ sym (ap (after_mentions scope) (map-append declares here rest))

-- COMMANDS

pub kind_mentions : (context : Context) (k : Option CommandKind) (args : List Argument) → (after_kind context k args).scope ≡ after_mentions context.scope (command_mentions context.profile context.required k args)
kind_mentions context None args = refl
kind_mentions context (Some kind) args =
    let labels = known_labels context.profile (command_row kind) args in
    let said = said_arguments context.required labels args in
    let first = map sets (names_in_role NameToSet labels said) in
    let then_those = map declares (names_in_role NamesToDeclare labels said) in
    ap (λ s. with_declared s labels said) (arguments_set said context.scope labels)
    ∙ arguments_declare said (after_mentions context.scope first) labels
    ∙ sym (in_turn first then_those context.scope)

-- the names that a command and its block write, in the order of the text, under this context
abbrev mutual
  pub command_writes : Context → Command → List Mention
  command_writes context (command name line args ts ending) = command_mentions context.profile context.required (known_command context.profile name) args ++ block_writes (after_kind context (known_command context.profile name) args) ending

  pub block_writes : Context → Block → List Mention
  block_writes context no_block = []
  block_writes context (block ns) = commands_writes (inside context) ns

  pub commands_writes : Context → CommandList → List Mention
  commands_writes context end_commands = []
  commands_writes context (more_commands n ns) = command_writes context n ++ commands_writes (after context n) ns

mutual
  unfolding after after_block past_commands

  pub command_names : (n : Command) (context : Context) → (after context n).scope ≡ after_mentions context.scope (command_writes context n)
  command_names (command name line args ts ending) context =
      let k = known_command context.profile name in
      let within = after_kind context k args in
      block_names ending within
      ∙ ap (λ s. after_mentions s (block_writes within ending)) (kind_mentions context k args)
      ∙ sym (in_turn (command_mentions context.profile context.required k args) (block_writes within ending) context.scope)

  block_names : (b : Block) (context : Context) → (after_block context b).scope ≡ after_mentions context.scope (block_writes context b)
  block_names no_block context = refl
  block_names (block ns) context = commands_names ns (inside context)

  commands_names : (ns : CommandList) (context : Context) → (past_commands context ns).scope ≡ after_mentions context.scope (commands_writes context ns)
  commands_names end_commands context = refl
  commands_names (more_commands n ns) context =
      commands_names ns (after context n)
      ∙ ap (λ s. after_mentions s (commands_writes (after context n) ns)) (command_names n context)
      ∙ sym (in_turn (command_writes context n) (commands_writes (after context n) ns) context.scope)

-- AMONG ELEMENTS

then_mentions : (xs ys : List Element) (front rest : List Mention) → mentions_in xs ≡ front → mentions_in ys ≡ rest → mentions_in (xs ++ ys) ≡ front ++ rest
then_mentions xs ys front rest first second = flat_map-append element_mentions xs ys ∙ ap (λ l. l ++ mentions_in ys) first ∙ ap (λ l. front ++ l) second

texts_write_none : (context : Context) (role : Option Role) (ts : List Text) → mentions_in (text_elements context role ts) ≡ []
texts_write_none context role [] = refl
texts_write_none context role (t ∷ ts) = texts_write_none context role ts

argument_writes_none : (context : Context) (role : Option Role) (a : Argument) → mentions_in (argument_elements context role a) ≡ []
argument_writes_none context role (strings items bracketed) = texts_write_none context role items
argument_writes_none context role (number value line) = refl
argument_writes_none context role (tag name line) = refl

arguments_write_none : (context : Context) (labels : List Label) (args : List Argument) → mentions_in (labelled_elements context labels args) ≡ []
arguments_write_none context labels [] = refl
arguments_write_none context labels (a ∷ args) =
    then_mentions (argument_elements context (first_role labels) a) (labelled_elements context (drop 1 labels) args) [] []
    (argument_writes_none context (first_role labels) a) (arguments_write_none context (drop 1 labels) args)

row_writes_none : (context : Context) (row : Row) (args : List Argument) (ts : Tests) (ends : Bool) → mentions_in (row_elements context row args ts ends) ≡ []
row_writes_none context row args ts ends =
    let labels = known_labels context.profile row args in
    arguments_write_none (among context labels) (judged_labels (is_well_used row (known_shapes context.profile row.tags args) ts ends) labels) args

test_arguments_write_none : (context : Context) (k : Option TestKind) (args : List Argument) (ts : Tests) → mentions_in (test_arguments context k args ts) ≡ []
test_arguments_write_none context None args ts = arguments_write_none context [] args
test_arguments_write_none context (Some kind) args ts = row_writes_none context (test_row kind) args ts false

command_arguments_write_none : (context : Context) (k : Option CommandKind) (args : List Argument) (ts : Tests) (ending : Block) → mentions_in (command_arguments context k args ts ending) ≡ []
command_arguments_write_none context None args ts ending = arguments_write_none context [] args
command_arguments_write_none context (Some kind) args ts ending = row_writes_none context (command_row kind) args ts (has_block ending)

mutual
  unfolding test_elements tests_elements test_list_elements

  test_writes_none : (t : Test) (context : Context) → mentions_in (test_elements context t) ≡ []
  test_writes_none (test name line args ts) context =
      then_mentions (test_arguments context (known_test context.profile name) args ts) (tests_elements context ts) [] []
      (test_arguments_write_none context (known_test context.profile name) args ts) (tests_write_none ts context)

  tests_write_none : (ts : Tests) (context : Context) → mentions_in (tests_elements context ts) ≡ []
  tests_write_none no_tests context = refl
  tests_write_none (one_test t) context = test_writes_none t context
  tests_write_none (test_list ts) context = test_list_writes_none ts context

  test_list_writes_none : (ts : TestList) (context : Context) → mentions_in (test_list_elements context ts) ≡ []
  test_list_writes_none end_tests context = refl
  test_list_writes_none (more_tests t ts) context =
      then_mentions (test_elements context t) (test_list_elements context ts) [] [] (test_writes_none t context) (test_list_writes_none ts context)

mutual
  unfolding command_elements block_elements command_list_elements

  command_among : (n : Command) (context : Context) → mentions_in (command_elements context n) ≡ command_writes context n
  command_among (command name line args ts ending) context =
      let k = known_command context.profile name in
      let within = after_kind context k args in
      ap (λ l. command_mentions context.profile context.required k args ++ l)
      (then_mentions (command_arguments context k args ts ending) (tests_elements context ts ++ block_elements within ending) [] (block_writes within ending)
      (command_arguments_write_none context k args ts ending)
      (then_mentions (tests_elements context ts) (block_elements within ending) [] (block_writes within ending) (tests_write_none ts context) (block_among ending within)))

  block_among : (b : Block) (context : Context) → mentions_in (block_elements context b) ≡ block_writes context b
  block_among no_block context = refl
  block_among (block ns) context = commands_among ns (inside context)

  pub commands_among : (ns : CommandList) (context : Context) → mentions_in (command_list_elements context ns) ≡ commands_writes context ns
  commands_among end_commands context = refl
  commands_among (more_commands n ns) context =
      then_mentions (command_elements context n) (command_list_elements (after context n) ns) (command_writes context n) (commands_writes (after context n) ns) (command_among n context) (commands_among ns (after context n))

-- NAMES THAT ARE ONE

abbrev same : List ℕ → List ℕ → Bool
same a b = str_eq_ignore_ascii_case a b

same_names : (a b : List ℕ) → same a b ≡ true → folded_name a ≡ folded_name b
same_names a b is = (bytes_decides (folded_name a) (folded_name b)).0 is

pub octets_either_way : (a b : List ℕ) → pointwise nat_eq a b ≡ pointwise nat_eq b a
octets_either_way a b = one_answer {P = a ≡ b} (pointwise nat_eq a b) (pointwise nat_eq b a) (bytes_decides a b) ((λ is. sym ((bytes_decides b a).0 is)), (λ e. (bytes_decides b a).1 (sym e)))

any_append : {X : Type 0} (p : X → Bool) (xs ys : List X) → list_any p (xs ++ ys) ≡ (list_any p xs || list_any p ys)
any_append p [] ys = refl
any_append p (x ∷ xs) ys = ap (λ b. p x || b) (any_append p xs ys) ∙ or_assoc (p x) (list_any p xs) (list_any p ys)
  where
    or_assoc : (a b c : Bool) → (a || (b || c)) ≡ ((a || b) || c)
    or_assoc true b c = refl
    or_assoc false b c = refl

filter_twice : {X : Type 0} (p q : X → Bool) (xs : List X) → filter p (filter q xs) ≡ filter (λ x. q x && p x) xs
filter_twice p q [] = refl
filter_twice p q (x ∷ xs) = by_first (q x) (filter_twice p q xs)
  where
    by_first : (b : Bool) → filter p (filter q xs) ≡ filter (λ y. q y && p y) xs → filter p (if b then x ∷ filter q xs else filter q xs) ≡ (if b && p x then x ∷ filter (λ y. q y && p y) xs else filter (λ y. q y && p y) xs)
    by_first true below = ap (λ l. if p x then x ∷ l else l) below
    by_first false below = below

filter_all : {X : Type 0} (xs : List X) → filter (λ x. true) xs ≡ xs
filter_all [] = refl
filter_all (x ∷ xs) = ap (λ l. x ∷ l) (filter_all xs)

-- NAMES THAT ARE NEITHER SET NOR DECLARED YET

-- whether a name in lower case is neither declared nor that of a variable that is set
abbrev is_free : Scope → List ℕ → Bool
is_free scope folded = not (is_among folded scope.declared) && not (list_any (λ other. pointwise nat_eq folded (folded_name other)) scope.assigned)

abbrev is_fresh : Scope → List ℕ → Bool
is_fresh scope name = is_free scope (folded_name name)

alike : (scope : Scope) (a b : List ℕ) → same a b ≡ true → is_fresh scope a ≡ is_fresh scope b
alike scope a b is = ap (is_free scope) (same_names a b is)

abbrev with_set : Scope → List ℕ → Scope
with_set scope name = record scope { assigned = scope.assigned ++ name ∷ [] }

-- after a name that is set, another name is fresh exactly where it was fresh before
fresh_after_set : (scope : Scope) (name other : List ℕ) → is_fresh (with_set scope name) other ≡ (not (same name other) && is_fresh scope other)
fresh_after_set scope name other =
    ap (λ b. not (is_among (folded_name other) scope.declared) && not b) (any_append (same other) scope.assigned (name ∷ []))
    ∙ ap (λ b. not (is_among (folded_name other) scope.declared) && not (is_assigned other scope || (b || false))) (octets_either_way (folded_name other) (folded_name name))
    ∙ regroup (is_among (folded_name other) scope.declared) (is_assigned other scope) (same name other)
  where
    regroup : (a b c : Bool) → (not a && not (b || (c || false))) ≡ (not c && (not a && not b))
    regroup true b true = refl
    regroup true b false = refl
    regroup false true true = refl
    regroup false true false = refl
    regroup false false true = refl
    regroup false false false = refl

pub among_with : (name other : List ℕ) (names : List (List ℕ)) → is_among other (with_name name names) ≡ (is_among other names || pointwise nat_eq name other)
among_with name other names = by_there (is_among name names) refl
  where
    or_false : (b : Bool) → (b || false) ≡ b
    or_false true = refl
    or_false false = refl

    there_already : (b : Bool) → pointwise nat_eq name other ≡ b → is_among name names ≡ true → is_among other names ≡ (is_among other names || b)
    there_already true is there = let found = ap (λ x. is_among x names) (sym ((bytes_decides name other).0 is)) ∙ there in found ∙ sym (ap (λ b. b || true) found)
    there_already false is there = sym (or_false (is_among other names))

    by_there : (b : Bool) → is_among name names ≡ b → is_among other (if b then names else names ++ name ∷ []) ≡ (is_among other names || pointwise nat_eq name other)
    by_there true there = there_already (pointwise nat_eq name other) refl there
    by_there false there =
        any_append (pointwise nat_eq other) names (name ∷ [])
        ∙ ap (λ b. is_among other names || b) (or_false (pointwise nat_eq other name) ∙ octets_either_way other name)

abbrev with_one_declared : Scope → List ℕ → Scope
with_one_declared scope name = record scope { declared = with_name (folded_name name) scope.declared }

fresh_after_declared : (scope : Scope) (name other : List ℕ) → is_fresh (with_one_declared scope name) other ≡ (not (same name other) && is_fresh scope other)
fresh_after_declared scope name other =
    ap (λ b. not b && not (is_assigned other scope)) (among_with (folded_name name) (folded_name other) scope.declared)
    ∙ regroup (is_among (folded_name other) scope.declared) (is_assigned other scope) (same name other)
  where
    regroup : (a b c : Bool) → (not (a || c) && not b) ≡ (not c && (not a && not b))
    regroup true b true = refl
    regroup true b false = refl
    regroup false b true = refl
    regroup false b false = refl

-- where a name isn't fresh, no other spelling of it is
none_fresh : (scope : Scope) (name other : List ℕ) → is_fresh scope name ≡ false → is_fresh scope other ≡ (not (same name other) && is_fresh scope other)
none_fresh scope name other stale = by_same (same name other) refl
  where
    by_same : (b : Bool) → same name other ≡ b → is_fresh scope other ≡ (not b && is_fresh scope other)
    by_same true is = sym (alike scope name other is) ∙ stale
    by_same false is = refl

-- the fresh names other than one name are the fresh ones of the names without that name
fresh_without : (scope : Scope) (now : List ℕ → Bool) (name : List ℕ) (names : List (List ℕ)) → ((other : List ℕ) → now other ≡ (not (same name other) && is_fresh scope other)) → filter now names ≡ filter (is_fresh scope) (without_name name names)
fresh_without scope now name names agree =
    filter_agree now (λ other. not (same name other) && is_fresh scope other) agree names
    ∙ sym (filter_twice (is_fresh scope) (λ other. not (same name other)) names)

-- VARIABLES THAT MENTIONS SET

module _ (scope : Scope) (name : List ℕ) (ms : List Mention) (below : (s : Scope) → (after_mentions s ms).assigned ≡ s.assigned ++ filter (is_fresh s) (set_by ms)) where
  -- the scope after a name that is written to be set, by whether it is an identifier and fresh
  abbrev now_set : Bool → Bool → Scope
  now_set i f = if i && f then with_set scope name else scope

  abbrev others : List (List ℕ)
  others = filter (is_fresh scope) (without_name name (set_by ms))

  by_name : (i f : Bool) → is_fresh scope name ≡ f → (after_mentions (now_set i f) ms).assigned ≡ scope.assigned ++ filter (is_fresh scope) (if i then name ∷ without_name name (set_by ms) else set_by ms)
  by_name true true fresh =
      below (with_set scope name)
      ∙ append_assoc scope.assigned (name ∷ []) (filter (is_fresh (with_set scope name)) (set_by ms))
      ∙ ap (λ l. scope.assigned ++ (name ∷ l)) (fresh_without scope (is_fresh (with_set scope name)) name (set_by ms) (fresh_after_set scope name))
      ∙ sym (ap (λ b. scope.assigned ++ (if b then name ∷ others else others)) fresh)
  by_name true false fresh =
      below scope
      ∙ ap (λ l. scope.assigned ++ l) (fresh_without scope (is_fresh scope) name (set_by ms) (λ other. none_fresh scope name other fresh))
      ∙ sym (ap (λ b. scope.assigned ++ (if b then name ∷ others else others)) fresh)
  by_name false f fresh = below scope

  set_in_turn : (after_mentions (assigning scope name) ms).assigned ≡ scope.assigned ++ filter (is_fresh scope) (set_by (sets name ∷ ms))
  unfolding assigning
  set_in_turn = by_name (is_identifier name) (is_fresh scope name) refl

mentions_set : (ms : List Mention) (scope : Scope) → (after_mentions scope ms).assigned ≡ scope.assigned ++ filter (is_fresh scope) (set_by ms)
mentions_set [] scope = sym (append-nil scope.assigned)
mentions_set (sets name ∷ ms) scope = set_in_turn scope name ms (mentions_set ms)
mentions_set (declares name ∷ ms) scope =
    mentions_set ms (with_one_declared scope name)
    ∙ ap (λ l. scope.assigned ++ l) (fresh_without scope (is_fresh (with_one_declared scope name)) name (set_by ms) (fresh_after_declared scope name))

pub set_so : (ms : List Mention) → (after_mentions no_names ms).assigned ≡ set_by ms
set_so ms = mentions_set ms no_names ∙ filter_all (set_by ms)

pub names_set : (profile : Profile) (ns : CommandList) → (past_commands (script_start profile) ns).scope.assigned ≡ set_by (mentions_in (command_list_elements (script_start profile) ns))
names_set profile ns = ap (λ s. s.assigned) (commands_names ns (script_start profile)) ∙ set_so (commands_writes (script_start profile) ns) ∙ sym (ap set_by (commands_among ns (script_start profile)))
