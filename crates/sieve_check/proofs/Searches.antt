-- Searches for the first breach, one after another.
use Rattle.std.proofs.Common.{◌≡◌, ℕ, ◌+◌, ◌<◌, ◌≤◌, List, [], ◌∷◌, ◌++◌, map, length, get_or, drop, Option, None, Some, Bool, true, false, find, slice_get, Result, refl, sym, ap, ◌∙◌, subst}
use Rattle.std.proofs.lemmas.List.{append-nil, append_assoc, at_drop_all, at_drop_more}
use Rattle.std.proofs.lemmas.Option.{none-some}
use Rattle.std.specs.Prelude.{if◌then◌else◌}
use Rattle.sieve_syntax.specs.view.Tree.{argument_of, text_of}
use Rattle.sieve_syntax.specs.declared.tree.Argument as arguments
use Rattle.sieve_syntax.specs.declared.tree.Text as texts
use Rattle.sieve_check.specs.Breach.{Breach, breach_if, breaches_at, breaches_by, breaches_in, said_breaks, text_breaks}
use Rattle.sieve_table.specs.Rule.{all_rules}
use Rattle.sieve_check.specs.CheckFault.{IsFirst}
use Rattle.sieve_check.specs.Context.{Context}
use Rattle.sieve_check.specs.Element.{Element, text_elements, the_text, argument_elements, labelled_elements}
use Rattle.sieve_check.specs.Said.{said}
use Rattle.sieve_script.specs.Role.{first_role}
use Rattle.sieve_check.specs.view.Finds.{Finds, FindsIn}
use Rattle.sieve_script.specs.declared.label.Label.{Label}
use Rattle.sieve_table.specs.declared.row.Role.{Role}
use Rattle.sieve_table.specs.declared.rule.Rule.{Rule}
use Rattle.sieve_table.specs.declared.rule.Rule.TheVariants.{BadCharacter}
use Rattle.sieve_check.specs.declared.validator.CheckFault.{CheckFault}
use Rattle.sieve_check.specs.declared.validator.CheckFault.TheVariants as faults

-- the first of some breaches is the first of these and more
pub first_of : (some more : List Breach) (fault : CheckFault) → IsFirst some fault → IsFirst (some ++ more) fault
first_of [] more (faults.Breach line rule) h = absurd (none-some _ h)
first_of (b ∷ some) more (faults.Breach line rule) h = h
first_of some more faults.NoMemory h = tt

-- ELEMENTS IN TURN

pub in_turn : (xs ys : List Element) → breaches_in (xs ++ ys) ≡ breaches_in xs ++ breaches_in ys
unfolding breaches_in
in_turn [] ys = refl
in_turn (x ∷ xs) ys = ap (λ bs. breaches_at x ++ bs) (in_turn xs ys) ∙ sym (append_assoc (breaches_at x) (breaches_in xs) (breaches_in ys))

pub none_in : breaches_in [] ≡ []
unfolding breaches_in
none_in = refl

pub cons_in : (e : Element) (es : List Element) → breaches_in (e ∷ es) ≡ breaches_at e ++ breaches_in es
unfolding breaches_in
cons_in e es = refl

pub one_in : (e : Element) → breaches_in (e ∷ []) ≡ breaches_at e
one_in e = cons_in e [] ∙ ap (λ bs. breaches_at e ++ bs) none_in ∙ append-nil (breaches_at e)

-- an element before others has the first breach, or has none, and the breaches are
-- those of the others
pub first_stops : (e : Element) (es : List Element) (fault : CheckFault) → IsFirst (breaches_at e) fault → IsFirst (breaches_in (e ∷ es)) fault
first_stops e es fault h = subst (λ bs. IsFirst bs fault) (sym (cons_in e es)) (first_of _ _ fault h)

pub first_passes : (e : Element) (es : List Element) → breaches_at e ≡ [] → breaches_in (e ∷ es) ≡ breaches_in es
first_passes e es none = cons_in e es ∙ ap (λ bs. bs ++ breaches_in es) none

-- elements before others have the first breach, or have none, and the breaches are
-- those of the others
pub front_stops : (xs ys : List Element) (fault : CheckFault) → IsFirst (breaches_in xs) fault → IsFirst (breaches_in (xs ++ ys)) fault
front_stops xs ys fault h = subst (λ bs. IsFirst bs fault) (sym (in_turn xs ys)) (first_of _ _ fault h)

pub front_passes : (xs ys : List Element) → breaches_in xs ≡ [] → breaches_in (xs ++ ys) ≡ breaches_in ys
front_passes xs ys none = in_turn xs ys ∙ ap (λ bs. bs ++ breaches_in ys) none

pub finds_past : {A : Type 0} (xs ys : List Element) (answer : Result A CheckFault) → breaches_in xs ≡ [] → FindsIn ys answer → FindsIn (xs ++ ys) answer
finds_past xs ys answer none h = subst (λ bs. Finds bs answer) (sym (front_passes xs ys none)) h

-- a rule before others is the first that is broken, or one of the others is
rule_first : (broken : Rule → Bool) (line : ℕ) (rule : Rule) (rules : List Rule) (does : Bool) (first : Rule) → broken rule ≡ does → (if does then Some rule else find broken rules) ≡ Some first → (find broken rules ≡ Some first → slice_get (breaches_by broken line rules) 0 ≡ Some (record { line = line; rule = first }))
    → slice_get (breach_if does line rule ++ breaches_by broken line rules) 0 ≡ Some (record { line = line; rule = first })
rule_first broken line rule rules true first is found below = ap (λ r. Some (record { line = line; rule = r })) (one_of rule first found)
  where
    one_of : (a b : Rule) → Some a ≡ Some b → a ≡ b
    one_of a b e = cc
rule_first broken line rule rules false first is found below = below found

first_rule : (broken : Rule → Bool) (line : ℕ) (rules : List Rule) (first : Rule) → find broken rules ≡ Some first → slice_get (breaches_by broken line rules) 0 ≡ Some (record { line = line; rule = first })
first_rule broken line [] first found = absurd (none-some _ found)
first_rule broken line (rule ∷ rules) first found = rule_first broken line rule rules (broken rule) first refl found (first_rule broken line rules first)

no_rule_by : (broken : Rule → Bool) (line : ℕ) (rule : Rule) (rules : List Rule) (does : Bool) → (if does then Some rule else find broken rules) ≡ None → (find broken rules ≡ None → breaches_by broken line rules ≡ []) → breach_if does line rule ++ breaches_by broken line rules ≡ []
no_rule_by broken line rule rules true found below = absurd (none-some _ (sym found))
no_rule_by broken line rule rules false found below = below found

no_rule : (broken : Rule → Bool) (line : ℕ) (rules : List Rule) → find broken rules ≡ None → breaches_by broken line rules ≡ []
no_rule broken line [] found = refl
no_rule broken line (rule ∷ rules) found = no_rule_by broken line rule rules (broken rule) found (no_rule broken line rules)

-- STRINGS

module _ (context : Context) (role : Option Role) (t : texts.Text) (line : ℕ) where
  -- a string with a sequence that stands for no character
  pub text_says_nothing : said context.required role (text_of t).string ≡ None → line ≡ (text_of t).line → IsFirst (breaches_at (the_text context role (text_of t))) (faults.Breach line BadCharacter)
  unfolding breaches_at
  text_says_nothing is at =
      subst (λ n. slice_get (breaches_by (said_breaks context role (said context.required role (text_of t).string)) (text_of t).line all_rules) 0 ≡ Some (record { line = n; rule = BadCharacter })) (sym at)
      (ap (λ s. slice_get (breaches_by (said_breaks context role s) (text_of t).line all_rules) 0) is)

  -- a string that says something
  pub text_breaks_rule : (octets : List ℕ) (rule : Rule) → said context.required role (text_of t).string ≡ Some octets → line ≡ (text_of t).line → Some rule ≡ find (text_breaks context role octets) all_rules → IsFirst (breaches_at (the_text context role (text_of t))) (faults.Breach line rule)
  unfolding breaches_at
  text_breaks_rule octets rule is at found =
      subst (λ n. slice_get (breaches_by (said_breaks context role (said context.required role (text_of t).string)) (text_of t).line all_rules) 0 ≡ Some (record { line = n; rule = rule })) (sym at)
      (first_rule (said_breaks context role (said context.required role (text_of t).string)) (text_of t).line all_rules rule (ap (λ s. find (said_breaks context role s) all_rules) is ∙ sym found))

pub text_breaks_none : (context : Context) (role : Option Role) (t : texts.Text) (octets : List ℕ) → said context.required role (text_of t).string ≡ Some octets → None ≡ find (text_breaks context role octets) all_rules → breaches_at (the_text context role (text_of t)) ≡ []
unfolding breaches_at
text_breaks_none context role t octets is found =
    no_rule (said_breaks context role (said context.required role (text_of t).string)) (text_of t).line all_rules (ap (λ s. find (said_breaks context role s) all_rules) is ∙ sym found)

text_at : (context : Context) (role : Option Role) (xs : List texts.Text) (i : ℕ) (t : texts.Text) → i < length xs → t ≡ get_or xs i t → text_elements context role (map text_of (drop i xs)) ≡ the_text context role (text_of t) ∷ text_elements context role (map text_of (drop (i + 1) xs))
text_at context role xs i t h e =
    at_drop_more (λ l. text_elements context role (map text_of l)) xs i t h
    ∙ ap (λ x. the_text context role (text_of x) ∷ text_elements context role (map text_of (drop (i + 1) xs))) (sym e)

pub texts_stop : (context : Context) (role : Option Role) (xs : List texts.Text) (i : ℕ) (t : texts.Text) (fault : CheckFault) → i < length xs → t ≡ get_or xs i t → IsFirst (breaches_at (the_text context role (text_of t))) fault → IsFirst (breaches_in (text_elements context role (map text_of (drop i xs)))) fault
texts_stop context role xs i t fault h e first = subst (λ es. IsFirst (breaches_in es) fault) (sym (text_at context role xs i t h e)) (first_stops _ _ fault first)

pub texts_go_on : (context : Context) (role : Option Role) (xs : List texts.Text) (i : ℕ) (t : texts.Text) → i < length xs → t ≡ get_or xs i t → breaches_at (the_text context role (text_of t)) ≡ [] → breaches_in (text_elements context role (map text_of (drop (i + 1) xs))) ≡ breaches_in (text_elements context role (map text_of (drop i xs)))
texts_go_on context role xs i t h e none = sym (ap breaches_in (text_at context role xs i t h e) ∙ first_passes _ _ none)

pub texts_end : (context : Context) (role : Option Role) (xs : List texts.Text) (i : ℕ) → length xs ≤ i → breaches_in (text_elements context role (map text_of (drop i xs))) ≡ []
texts_end context role xs i h = ap breaches_in (at_drop_all (λ l. text_elements context role (map text_of l)) xs i h) ∙ none_in

-- ARGUMENTS

argument_at : (context : Context) (labels : List Label) (xs : List arguments.Argument) (i : ℕ) (a : arguments.Argument) → i < length xs → a ≡ get_or xs i a → labelled_elements context labels (map argument_of (drop i xs)) ≡ argument_elements context (first_role labels) (argument_of a) ++ labelled_elements context (drop 1 labels) (map argument_of (drop (i + 1) xs))
argument_at context labels xs i a h e =
    at_drop_more (λ l. labelled_elements context labels (map argument_of l)) xs i a h
    ∙ ap (λ x. argument_elements context (first_role labels) (argument_of x) ++ labelled_elements context (drop 1 labels) (map argument_of (drop (i + 1) xs))) (sym e)

pub arguments_stop : (context : Context) (labels : List Label) (role : Option Role) (xs : List arguments.Argument) (i : ℕ) (a : arguments.Argument) (fault : CheckFault) → i < length xs → a ≡ get_or xs i a → role ≡ first_role labels → IsFirst (breaches_in (argument_elements context role (argument_of a))) fault → IsFirst (breaches_in (labelled_elements context labels (map argument_of (drop i xs)))) fault
arguments_stop context labels role xs i a fault h e same first =
    subst (λ es. IsFirst (breaches_in es) fault) (sym (argument_at context labels xs i a h e))
    (front_stops _ _ fault (subst (λ r. IsFirst (breaches_in (argument_elements context r (argument_of a))) fault) same first))

pub arguments_go_on : (context : Context) (labels rest : List Label) (role : Option Role) (xs : List arguments.Argument) (i : ℕ) (a : arguments.Argument) → i < length xs → a ≡ get_or xs i a → role ≡ first_role labels → rest ≡ drop 1 labels → breaches_in (argument_elements context role (argument_of a)) ≡ [] → breaches_in (labelled_elements context rest (map argument_of (drop (i + 1) xs))) ≡ breaches_in (labelled_elements context labels (map argument_of (drop i xs)))
arguments_go_on context labels rest role xs i a h e same left none =
    ap (λ l. breaches_in (labelled_elements context l (map argument_of (drop (i + 1) xs)))) left
    ∙ sym (ap breaches_in (argument_at context labels xs i a h e) ∙ front_passes _ _ (ap (λ r. breaches_in (argument_elements context r (argument_of a))) (sym same) ∙ none))

pub arguments_end : (context : Context) (labels : List Label) (xs : List arguments.Argument) (i : ℕ) → length xs ≤ i → breaches_in (labelled_elements context labels (map argument_of (drop i xs))) ≡ []
arguments_end context labels xs i h = ap breaches_in (at_drop_all (λ l. labelled_elements context labels (map argument_of l)) xs i h) ∙ none_in

pub ruleset element_steps = (none_in, one_in)

pub ruleset text_rule_steps = (text_says_nothing, text_breaks_rule, text_breaks_none)

pub ruleset text_steps = (texts_stop, texts_go_on, texts_end)

pub ruleset argument_steps = (arguments_stop, arguments_go_on, arguments_end)
