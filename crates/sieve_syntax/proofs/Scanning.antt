-- The lengths of names, of numbers and of quoted strings in a text, against the spellings.
use Rattle.std.proofs.Common.{◌≡◌, ℕ, zero, suc, ◌<◌, ◌≤◌, ◌==◌, ◌&&◌, Bool, true, false, if◌then◌else◌, List, [], ◌∷◌, length, take, Option, Some, None, refl, sym, ap, ◌∙◌, subst, arith}
use Rattle.std.specs.List.{list_all}
use Rattle.std.specs.Option.{option_map}
use Rattle.octets.specs.Octet.{is_digit, is_name_octet, octet_of}
use Rattle.sieve_syntax.specs.Octet.{is_unit}
use Rattle.sieve_syntax.specs.Spelling.{is_none, ends_number, ends_quoted, ends_protected}
use Rattle.sieve_syntax.specs.Scan.{name_length, number_length, quoted_length, protected_length}
use Rattle.sieve_syntax.proofs.Cases.{by_cases, and_left, and_right, both_true}

-- NAMES

pub name_bound : (cs : List ℕ) → name_length cs ≤ length cs
unfolding name_length
name_bound [] = omega arith
name_bound (c ∷ cs) =
    let more : name_length cs ≤ length cs = name_bound cs in
    by_cases (is_name_octet c) (λ b. (if b then suc (name_length cs) else 0) ≤ suc (length cs)) (λ e. omega arith) (λ e. omega arith)

pub name_length-all : (cs : List ℕ) → list_all is_name_octet (take (name_length cs) cs) ≡ true
unfolding name_length
name_length-all [] = refl
name_length-all (c ∷ cs) =
    by_cases (is_name_octet c) (λ b. list_all is_name_octet (take (if b then suc (name_length cs) else 0) (c ∷ cs)) ≡ true)
    (λ e. both_true (is_name_octet c) _ e (name_length-all cs)) (λ e. refl)

pub name_length-most : (cs : List ℕ) (m : ℕ) → m ≤ length cs → list_all is_name_octet (take m cs) ≡ true → m ≤ name_length cs
unfolding name_length
name_length-most [] m h all = omega arith
name_length-most (c ∷ cs) zero h all = omega arith
name_length-most (c ∷ cs) (suc m) h all =
    let more : m ≤ name_length cs = name_length-most cs m (omega arith) (and_right (is_name_octet c) _ all) in
    by_cases (is_name_octet c) (λ b. suc m ≤ (if b then suc (name_length cs) else 0)) (λ e. omega arith)
    (λ e. absurd (let t = and_left (is_name_octet c) _ all in cc))

-- NUMBERS

pub number_bound : (cs : List ℕ) → number_length cs ≤ length cs
unfolding number_length
number_bound [] = omega arith
number_bound (c ∷ cs) =
    let more : number_length cs ≤ length cs = number_bound cs in
    by_cases (is_digit c) (λ b. (if b then suc (number_length cs) else (if is_unit c then 1 else 0)) ≤ suc (length cs)) (λ e. omega arith)
    (λ e. by_cases (is_unit c) (λ b. (if b then 1 else 0) ≤ suc (length cs)) (λ f. omega arith) (λ f. omega arith))

pub number_length-ends : (cs : List ℕ) → ends_number (take (number_length cs) cs) ≡ true
unfolding number_length ends_number
number_length-ends [] = refl
number_length-ends (c ∷ cs) =
    by_cases (is_digit c) (λ b. is_digit c ≡ b → ends_number (take (if b then suc (number_length cs) else (if is_unit c then 1 else 0)) (c ∷ cs)) ≡ true)
    (λ e f. ap (λ b. if b then ends_number (take (number_length cs) cs) else (is_unit c && is_none (take (number_length cs) cs))) f ∙ number_length-ends cs)
    (λ e f. by_cases (is_unit c) (λ b. is_unit c ≡ b → ends_number (take (if b then 1 else 0) (c ∷ cs)) ≡ true)
    (λ g h. ap (λ b. if b then true else (is_unit c && true)) f ∙ both_true (is_unit c) true h refl)
    (λ g h. refl) refl) refl

pub none_taken : (m : ℕ) (cs : List ℕ) → m ≤ length cs → is_none (take m cs) ≡ true → m ≡ 0
none_taken zero cs h e = refl
none_taken (suc m) [] h e = absurd (omega arith)
none_taken (suc m) (c ∷ cs) h e = cc

pub number_length-most : (cs : List ℕ) (m : ℕ) → m ≤ length cs → ends_number (take m cs) ≡ true → m ≤ number_length cs
unfolding number_length ends_number
number_length-most [] m h = λ ends. omega arith
number_length-most (c ∷ cs) zero h = λ ends. omega arith
number_length-most (c ∷ cs) (suc m) h =
    by_cases (is_digit c) (λ b. (if b then ends_number (take m cs) else (is_unit c && is_none (take m cs))) ≡ true → suc m ≤ (if b then suc (number_length cs) else (if is_unit c then 1 else 0)))
    (λ e ends. omega (arith, number_length-most cs m (omega arith) ends))
    (λ e ends.
    let none : m ≡ 0 = none_taken m cs (omega arith) (and_right (is_unit c) _ ends) in
    by_cases (is_unit c) (λ b. (b && is_none (take m cs)) ≡ true → suc m ≤ (if b then 1 else 0)) (λ f g. omega arith) (λ f g. cc) ends)

-- QUOTED STRINGS

-- the test holds of so many octets at the front of the text, and there is at least one
pub record IsEnd (ends : List ℕ → Bool) (cs : List ℕ) (n : ℕ) : Type 0 where
  pub some : 0 < n
  pub inside : n ≤ length cs
  pub ends_it : ends (take n cs) ≡ true

pub one_more : (o : Option ℕ) (n : ℕ) → option_map suc o ≡ Some n → (m : ℕ) × (o ≡ Some m) × (n ≡ suc m)
one_more (Some m) n e = (m, refl, cc)
one_more None n e = cc

ends_backslash : (c : ℕ) (symbol : List ℕ) → (c == octet_of "\\") ≡ true → ends_quoted (c ∷ symbol) ≡ ends_protected symbol
unfolding ends_quoted
ends_backslash c symbol e = ap (λ b. if b then ends_protected symbol else (if c == octet_of "\"" then is_none symbol else ends_quoted symbol)) e

ends_mark : (c : ℕ) (symbol : List ℕ) → (c == octet_of "\\") ≡ false → (c == octet_of "\"") ≡ true → ends_quoted (c ∷ symbol) ≡ is_none symbol
unfolding ends_quoted
ends_mark c symbol e f =
    ap (λ b. if b then ends_protected symbol else (if c == octet_of "\"" then is_none symbol else ends_quoted symbol)) e
    ∙ ap (λ b. if b then is_none symbol else ends_quoted symbol) f

ends_plain : (c : ℕ) (symbol : List ℕ) → (c == octet_of "\\") ≡ false → (c == octet_of "\"") ≡ false → ends_quoted (c ∷ symbol) ≡ ends_quoted symbol
unfolding ends_quoted
ends_plain c symbol e f =
    ap (λ b. if b then ends_protected symbol else (if c == octet_of "\"" then is_none symbol else ends_quoted symbol)) e
    ∙ ap (λ b. if b then is_none symbol else ends_quoted symbol) f

mutual
  unfolding quoted_length ends_quoted

  pub quoted_found : (cs : List ℕ) (n : ℕ) → quoted_length cs ≡ Some n → IsEnd ends_quoted cs n
  quoted_found [] n = λ e. cc
  quoted_found (c ∷ cs) n =
      by_cases (c == octet_of "\\") (λ b. (if b then option_map suc (protected_length cs) else (if c == octet_of "\"" then Some 1 else option_map suc (quoted_length cs))) ≡ Some n → IsEnd ends_quoted (c ∷ cs) n)
      (λ q e.
      let m = one_more (protected_length cs) n e in
      let below = protected_found cs m.0 m.1 in
      let inside = below.inside in
      subst (IsEnd ends_quoted (c ∷ cs)) (sym m.2) record {
        some = omega arith;
        inside = omega arith;
        ends_it = ends_backslash c (take m.0 cs) q ∙ below.ends_it;
      })
      (λ q. by_cases (c == octet_of "\"") (λ b. (if b then Some 1 else option_map suc (quoted_length cs)) ≡ Some n → IsEnd ends_quoted (c ∷ cs) n)
      (λ r e.
      let same : 1 ≡ n = cc in
      subst (IsEnd ends_quoted (c ∷ cs)) same record {
        some = omega arith;
        inside = omega arith;
        ends_it = ends_mark c [] q r;
      })
      (λ r e.
      let m = one_more (quoted_length cs) n e in
      let below = quoted_found cs m.0 m.1 in
      let inside = below.inside in
      subst (IsEnd ends_quoted (c ∷ cs)) (sym m.2) record {
        some = omega arith;
        inside = omega arith;
        ends_it = ends_plain c (take m.0 cs) q r ∙ below.ends_it;
      }))

  protected_found : (cs : List ℕ) (n : ℕ) → protected_length cs ≡ Some n → IsEnd ends_protected cs n
  protected_found [] n = λ e. cc
  protected_found (c ∷ cs) n = λ e.
      let m = one_more (quoted_length cs) n e in
      let below = quoted_found cs m.0 m.1 in
      let inside = below.inside in
      subst (IsEnd ends_protected (c ∷ cs)) (sym m.2) record {
        some = omega arith;
        inside = omega arith;
        ends_it = below.ends_it;
      }

mutual
  unfolding quoted_length ends_quoted

  pub quoted_only : (cs : List ℕ) (m : ℕ) → m ≤ length cs → ends_quoted (take m cs) ≡ true → quoted_length cs ≡ Some m
  quoted_only [] zero h = λ e. cc
  quoted_only [] (suc m) h = λ e. cc
  quoted_only (c ∷ cs) zero h = λ e. cc
  quoted_only (c ∷ cs) (suc m) h =
      by_cases (c == octet_of "\\") (λ b. (if b then ends_protected (take m cs) else (if c == octet_of "\"" then is_none (take m cs) else ends_quoted (take m cs))) ≡ true → (if b then option_map suc (protected_length cs) else (if c == octet_of "\"" then Some 1 else option_map suc (quoted_length cs))) ≡ Some (suc m))
      (λ q e. ap (option_map suc) (protected_only cs m (omega arith) e))
      (λ q. by_cases (c == octet_of "\"") (λ b. (if b then is_none (take m cs) else ends_quoted (take m cs)) ≡ true → (if b then Some 1 else option_map suc (quoted_length cs)) ≡ Some (suc m))
      (λ r e. ap (λ k. Some (suc k)) (sym (none_taken m cs (omega arith) e)))
      (λ r e. ap (option_map suc) (quoted_only cs m (omega arith) e)))

  protected_only : (cs : List ℕ) (m : ℕ) → m ≤ length cs → ends_protected (take m cs) ≡ true → protected_length cs ≡ Some m
  protected_only [] zero h = λ e. cc
  protected_only [] (suc m) h = λ e. cc
  protected_only (c ∷ cs) zero h = λ e. cc
  protected_only (c ∷ cs) (suc m) h = λ e. ap (option_map suc) (quoted_only cs m (omega arith) e)
