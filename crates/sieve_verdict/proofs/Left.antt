-- Whether a text says lines, by its first line and the rest after it.
use Rattle.std.proofs.Common.{◌≡◌, ◌↔◌, ℕ, ◌<◌, true, false, not, IsTrue, ◌==◌, ◌&&◌, nat_eq, List, [], ◌∷◌, ◌++◌, length, Option, None, Some, refl, sym, ap, ◌∙◌, arith}
use Rattle.std.proofs.lemmas.Bool.{ne_eqb}
use Rattle.std.proofs.lemmas.Slice.Eq.{bytes_eq-Decides, slice_eq-Decides}
use Rattle.std.specs.Bool.{Decides}
use Rattle.std.specs.Str.Lines.{lines}
use lib.Pointwise.{pointwise}
use Rattle.sieve_verdict.specs.Lines.{agrees, says, verdict_lines}
use Rattle.sieve_verdict.specs.Verdict.{Verdict}
use Rattle.sieve_verdict.specs.view.Left.{left_says}

-- LINES

first_says : (text line left front : List ℕ) (wanted : List (List ℕ)) → lines text ≡ line ∷ lines left → says text (front ∷ wanted) ≡ (pointwise nat_eq line front && says left wanted)
first_says text line left front wanted is = ap (λ l. pointwise (pointwise nat_eq) l (front ∷ wanted)) is

-- Whether a text says lines. Its first line is the first of them, or it is another line, or there
-- is none.
pub line_there : (text line left front : List ℕ) (wanted : List (List ℕ)) → lines text ≡ line ∷ lines left → pointwise nat_eq line front ≡ true → says left wanted ≡ says text (front ∷ wanted)
line_there text line left front wanted is whole = sym (first_says text line left front wanted is ∙ ap (λ same. same && says left wanted) whole)

pub line_other : (text line left front : List ℕ) (wanted : List (List ℕ)) → lines text ≡ line ∷ lines left → pointwise nat_eq line front ≡ false → false ≡ says text (front ∷ wanted)
line_other text line left front wanted is whole = sym (first_says text line left front wanted is ∙ ap (λ same. same && says left wanted) whole)

pub no_line : (text front : List ℕ) (wanted : List (List ℕ)) → text ≡ [] → false ≡ says text (front ∷ wanted)
no_line text front wanted none = sym (ap (λ t. says t (front ∷ wanted)) none)

pub says_nothing : (text : List ℕ) → text ≡ [] → true ≡ says text []
says_nothing text none = sym (ap (λ t. says t []) none)

pub says_something : (text line left : List ℕ) → lines text ≡ line ∷ lines left → false ≡ says text []
says_something text line left is = sym (ap (λ l. pointwise (pointwise nat_eq) l []) is)

-- whether a text says the lines of two parts in turn, by the text after the first part
pub part_some : (first rest : List (List ℕ)) (text left : List ℕ) (answer : Option (List ℕ)) → ((wanted : List (List ℕ)) → left_says answer wanted ≡ says text (first ++ wanted)) → answer ≡ Some left → says left rest ≡ says text (first ++ rest)
part_some first rest text left answer one some = ap (λ a. left_says a rest) (sym some) ∙ one rest

pub part_none : (first rest : List (List ℕ)) (text : List ℕ) (answer : Option (List ℕ)) → ((wanted : List (List ℕ)) → left_says answer wanted ≡ says text (first ++ wanted)) → answer ≡ None → false ≡ says text (first ++ rest)
part_none first rest text answer one none = ap (λ a. left_says a rest) (sym none) ∙ one rest

-- A TEXT AS A WHOLE

says_is : (text : List ℕ) (wanted : List (List ℕ)) → Decides (says text wanted) (lines text ≡ wanted)
says_is text wanted = slice_eq-Decides bytes_eq-Decides (lines text) wanted (says text wanted) refl

pub agrees_is : (mailbox : List ℕ) (verdict : Verdict) (text : List ℕ) → agrees mailbox verdict text ≡ (not (length text == 0) && says text (verdict_lines mailbox verdict))
unfolding agrees
agrees_is mailbox verdict [] = refl
agrees_is mailbox verdict (octet ∷ text) = ap (λ none. not none && says (octet ∷ text) (verdict_lines mailbox verdict)) (sym (ne_eqb (length (octet ∷ text)) 0 (omega arith)))

pub agrees_where : (mailbox : List ℕ) (verdict : Verdict) (text : List ℕ) → IsTrue (agrees mailbox verdict text) ↔ ((0 < length text) × (lines text ≡ verdict_lines mailbox verdict))
unfolding agrees
agrees_where mailbox verdict [] = (λ (is : IsTrue false). absurd (let e : false ≡ true = is in cc), λ both. absurd (omega (arith, both.0)))
agrees_where mailbox verdict (octet ∷ text) = let decides = says_is (octet ∷ text) (verdict_lines mailbox verdict) in (λ is. (omega arith, decides.0 is), λ both. decides.1 both.1)

pub ruleset saying = (line_there, line_other, no_line, says_nothing, says_something)
