-- The first of the breaches, in the order of the text and then of the rules, is the least.
use Rattle.std.proofs.Common.{◌≡◌, Bool, true, false, List, [], ◌∷◌, ◌++◌, Some, None, refl, ap, ◌∙◌, subst, slice_get}
use Rattle.std.specs.List.{flat_map}
use Rattle.sieve_profile.specs.Profile.{Profile}
use Rattle.sieve_syntax.specs.Tree.{Command}
use Rattle.sieve_check.specs.Breach.{Breach, breach_if, breaches_at, breaches_by, breaches_in, breaches_of, breaks, first_breach, line_of, IsLeast, IsLeastBreach}
use Rattle.sieve_table.specs.Rule.{all_rules}
use Rattle.sieve_check.specs.Element.{Element, elements_of}
use Rattle.sieve_table.specs.declared.rule.Rule.{Rule}

-- the breaches of an element, by some of the rules
abbrev broken_by : Element → List Rule → List Breach
broken_by element rules = breaches_by (breaks element) (line_of element) rules

-- the first of some rules that an element breaks
record IsFirstRule (element : Element) (rules : List Rule) (breach : Breach) : Type 0 where
  line : breach.line ≡ line_of element
  lower : List Rule
  higher : List Rule
  split : rules ≡ lower ++ breach.rule ∷ higher
  breaks : breaks element breach.rule ≡ true
  none_lower : broken_by element lower ≡ []

-- The first breach is by the first of the rules that the element breaks. Or the element breaks none
-- of them, and the rest has it.
data Finding (element : Element) (rules : List Rule) (rest : List Breach) (breach : Breach) : Type 0 where
  here : IsFirstRule element rules breach → Finding element rules rest breach
  later : broken_by element rules ≡ [] → slice_get rest 0 ≡ Some breach → Finding element rules rest breach

some_is : (a b : Breach) → Some a ≡ Some b → a ≡ b
some_is a b e = cc

none_is : (b : Breach) → None ≡ Some b → ⊥
none_is b e = cc

-- a finding stays so with a rule in front that the element doesn't break
passed_over : (element : Element) (rule : Rule) (rules : List Rule) (rest : List Breach) (breach : Breach) → breaks element rule ≡ false → Finding element rules rest breach → Finding element (rule ∷ rules) rest breach
passed_over element rule rules rest breach is (here found) =
    here (record {
      line = found.line;
      lower = rule ∷ found.lower;
      higher = found.higher;
      split = ap (λ l. rule ∷ l) found.split;
      breaks = found.breaks;
      none_lower = ap (λ d. breach_if d (line_of element) rule ++ broken_by element found.lower) is ∙ found.none_lower;
    })
passed_over element rule rules rest breach is (later none after) =
    later (ap (λ d. breach_if d (line_of element) rule ++ broken_by element rules) is ∙ none) after

-- with a rule before others, the first breach is by this rule, or is found by the others
at_rule : (element : Element) (rule : Rule) (rules : List Rule) (rest : List Breach) (breach : Breach) (does : Bool) → breaks element rule ≡ does
    → slice_get ((breach_if does (line_of element) rule ++ broken_by element rules) ++ rest) 0 ≡ Some breach
    → (slice_get (broken_by element rules ++ rest) 0 ≡ Some breach → Finding element rules rest breach)
    → Finding element (rule ∷ rules) rest breach
at_rule element rule rules rest breach true is first below =
    here (subst (λ (b : Breach). IsFirstRule element (rule ∷ rules) b) (some_is _ _ first)
    (record { line = refl; lower = []; higher = rules; split = refl; breaks = is; none_lower = refl }))
at_rule element rule rules rest breach false is first below = passed_over element rule rules rest breach is (below first)

finding : (element : Element) (rules : List Rule) (rest : List Breach) (breach : Breach) → slice_get (broken_by element rules ++ rest) 0 ≡ Some breach → Finding element rules rest breach
finding element [] rest breach first = later refl first
finding element (rule ∷ rules) rest breach first = at_rule element rule rules rest breach (breaks element rule) refl first (finding element rules rest breach)

-- With an element before others, the breach that is found at it is the least. Where none is, the
-- least of the others is.
at_front : (element : Element) (after : List Element) (breach : Breach) → Finding element all_rules (breaches_in after) breach
    → (slice_get (breaches_in after) 0 ≡ Some breach → IsLeast after breach) → IsLeast (element ∷ after) breach
unfolding breaches_in breaches_at
at_front element after breach (here found) below =
    record { before = []; broken = element; rest = after; split = refl; none_before = refl; line = found.line; lower = found.lower; higher = found.higher; rules = found.split; broken_rule = found.breaks; none_lower = found.none_lower }
at_front element after breach (later none first) below =
    let least = below first in
    record {
      before = element ∷ least.before;
      broken = least.broken;
      rest = least.rest;
      split = ap (λ l. element ∷ l) least.split;
      none_before = ap (λ l. l ++ breaches_in least.before) none ∙ least.none_before;
      line = least.line;
      lower = least.lower;
      higher = least.higher;
      rules = least.rules;
      broken_rule = least.broken_rule;
      none_lower = least.none_lower;
    }

least_of : (all : List Element) (breach : Breach) → slice_get (breaches_in all) 0 ≡ Some breach → IsLeast all breach
unfolding breaches_in breaches_at
least_of [] breach first = absurd (none_is breach first)
least_of (element ∷ after) breach first = at_front element after breach (finding element all_rules (breaches_in after) breach first) (least_of after breach)

pub first_is_least : (profile : Profile) (tree : List Command) (breach : Breach) → first_breach profile tree ≡ Some breach → IsLeastBreach profile tree breach
first_is_least profile tree breach first = least_of (elements_of profile tree) breach first

pub breaches_order : (profile : Profile) (tree : List Command) → breaches_of profile tree ≡ flat_map breaches_at (elements_of profile tree)
unfolding breaches_in
breaches_order profile tree = refl

pub ruleset least = (first_is_least, breaches_order)
