-- The computed cut of a text into references and octets is the one cut.
use Rattle.octets.specs.Octet.{octet_of}
use Rattle.std.proofs.Common.{◌≡◌, ℕ, suc, ◌+◌, Bool, true, false, ◌&&◌, ◌==◌, cond, List, [], ◌∷◌, ◌++◌, length, drop, Option, None, Some, refl, sym, ◌∙◌, ap, subst, append_assoc, length-append, arith}
use Rattle.std.specs.List.{list_all}
use Rattle.std.specs.Option.{option_map}
use Rattle.std.proofs.lemmas.Bool.{eqb-true}
use Rattle.text_cut.proofs.Cut as cuts
use Rattle.text_cut.specs.Cut.{octet}
use Rattle.text_cut.specs.Scan.{FindsSequences, pieces_from}
use Rattle.sieve_variables.specs.Reference.{CutsReferences, IsLegalReference, dotted, is_legal, reference, written}
use Rattle.sieve_variables.specs.Scan.{before_brace, further, if_legal, inside_at, is_inside, pieces_of, reference_at, words_of}
use Rattle.sieve_variables.proofs.Words.{dotted-words_of, dotted_inside, legal_octets, legal_some, not_brace, words_of-dotted}
use Rattle.octets.proofs.Both.{first_of_both, last_of_both}

-- the octets before the first `}`

pub before_brace-is : (inside rest : List ℕ) → list_all is_inside inside ≡ true → before_brace (inside ++ octet_of "}" ∷ rest) ≡ Some inside
unfolding before_brace
before_brace-is [] rest is = refl
before_brace-is (c ∷ cs) rest is =
    let here : is_inside c ≡ true = first_of_both (is_inside c) (list_all is_inside cs) is in
    let after = before_brace-is cs rest (last_of_both (is_inside c) (list_all is_inside cs) is) in
    ap (λ b. cond b (Some []) (cond (is_inside c) (option_map (λ inside. c ∷ inside) (before_brace (cs ++ octet_of "}" ∷ rest))) None)) (not_brace c here)
    ∙ ap (λ b. cond b (option_map (λ inside. c ∷ inside) (before_brace (cs ++ octet_of "}" ∷ rest))) None) here
    ∙ ap (option_map (λ inside. c ∷ inside)) after

-- a text begins with the octets inside a reference and the `}` after them
abbrev EndsIn : List ℕ → List ℕ → Type 0
EndsIn text inside = text ≡ inside ++ octet_of "}" ∷ drop (suc (length inside)) text

brace_step : (c : ℕ) (cs inside : List ℕ) (b d : Bool) (found : Option (List ℕ)) → (c == octet_of "}") ≡ b → ((within : List ℕ) → found ≡ Some within → EndsIn cs within) → cond b (Some []) (cond d (option_map (λ within. c ∷ within) found) None) ≡ Some inside → EndsIn (c ∷ cs) inside
brace_step c cs inside true d found brace after is =
    let none : [] ≡ inside = cc in
    let same : c ≡ octet_of "}" = eqb-true c (octet_of "}") brace in
    subst (EndsIn (c ∷ cs)) none (ap (λ first. first ∷ cs) same)
brace_step c cs inside false true None brace after is = absurd cc
brace_step c cs inside false true (Some within) brace after is =
    let same : (c ∷ within) ≡ inside = cc in
    subst (EndsIn (c ∷ cs)) same (ap (λ text. c ∷ text) (after within refl))
brace_step c cs inside false false found brace after is = absurd cc

pub before_brace-ends : (text inside : List ℕ) → before_brace text ≡ Some inside → EndsIn text inside
unfolding before_brace
before_brace-ends [] inside is = absurd cc
before_brace-ends (c ∷ cs) inside is =
    brace_step c cs inside (c == octet_of "}") (is_inside c) (before_brace cs) refl (λ within found. before_brace-ends cs within found) is

-- the reference at the beginning of a text

legal_is : (inside : List ℕ) → is_legal (words_of inside) ≡ true → if_legal (Some inside) ≡ Some inside
legal_is inside legal = ap (λ b. cond b (Some inside) None) legal

pub inside_at-written : (words : List (List ℕ)) (rest : List ℕ) → is_legal words ≡ true → inside_at (octet_of "$" ∷ octet_of "{" ∷ (dotted words ++ octet_of "}" ∷ rest)) ≡ Some (dotted words)
unfolding inside_at
inside_at-written words rest legal =
    let octets = legal_octets words legal in
    ap if_legal (before_brace-is (dotted words) rest (dotted_inside words octets))
    ∙ legal_is (dotted words) (ap is_legal (words_of-dotted words (legal_some words legal) octets) ∙ legal)

pub written-is : (words : List (List ℕ)) (rest : List ℕ) → written words ++ rest ≡ octet_of "$" ∷ octet_of "{" ∷ (dotted words ++ octet_of "}" ∷ rest)
written-is words rest = ap (λ text. octet_of "$" ∷ octet_of "{" ∷ text) (append_assoc (dotted words) (octet_of "}" ∷ []) rest)

-- a text that begins with a reference, by the octets inside it
record BeginsWith (text inside : List ℕ) : Type 0 where
  pub legal : is_legal (words_of inside) ≡ true
  pub is : text ≡ octet_of "$" ∷ octet_of "{" ∷ (inside ++ octet_of "}" ∷ drop (suc (length inside)) (drop 2 text))

legal_step : (inside within : List ℕ) (b : Bool) → is_legal (words_of within) ≡ b → cond b (Some within) None ≡ Some inside → (is_legal (words_of inside) ≡ true) × (within ≡ inside)
legal_step inside within true legal is =
    let same : within ≡ inside = cc in
    (ap (λ one. is_legal (words_of one)) (sym same) ∙ legal, same)
legal_step inside within false legal is = absurd cc

if_legal-is : (inside : List ℕ) (found : Option (List ℕ)) → if_legal found ≡ Some inside → (is_legal (words_of inside) ≡ true) × (found ≡ Some inside)
if_legal-is inside None is = absurd cc
if_legal-is inside (Some within) is =
    let step = legal_step inside within (is_legal (words_of within)) refl is in
    (step.0, ap Some step.1)

sign_step : (c d : ℕ) (rest inside : List ℕ) (b : Bool) → (c == octet_of "$" && d == octet_of "{") ≡ b → cond b (if_legal (before_brace rest)) None ≡ Some inside → BeginsWith (c ∷ d ∷ rest) inside
sign_step c d rest inside true signs is =
    let found = if_legal-is inside (before_brace rest) is in
    let first = eqb-true c (octet_of "$") (first_of_both (c == octet_of "$") (d == octet_of "{") signs) in
    let second = eqb-true d (octet_of "{") (last_of_both (c == octet_of "$") (d == octet_of "{") signs) in
    record {
      legal = found.0;
      is =
          ap (λ one. one ∷ d ∷ rest) first
          ∙ ap (λ one. octet_of "$" ∷ one ∷ rest) second
          ∙ ap (λ text. octet_of "$" ∷ octet_of "{" ∷ text) (before_brace-ends rest inside found.1);
    }
sign_step c d rest inside false signs is = absurd cc

inside_at-begins : (text inside : List ℕ) → inside_at text ≡ Some inside → BeginsWith text inside
unfolding inside_at
inside_at-begins [] inside is = absurd cc
inside_at-begins (c ∷ []) inside is = absurd cc
inside_at-begins (c ∷ d ∷ rest) inside is = sign_step c d rest inside (c == octet_of "$" && d == octet_of "{") refl is

-- the octets after the reference with which a text begins
abbrev after : List ℕ → List ℕ → List ℕ
after inside text = drop (suc (length inside)) (drop 2 text)

written_at : (text inside : List ℕ) → BeginsWith text inside → text ≡ written (words_of inside) ++ after inside text
written_at text inside begins =
    begins.is
    ∙ ap (λ one. octet_of "$" ∷ octet_of "{" ∷ (one ++ octet_of "}" ∷ after inside text)) (sym (dotted-words_of inside))
    ∙ sym (written-is (words_of inside) (after inside text))

-- each reference that is found is one as it is written

-- a text that begins with a reference, by its words
record Starts (text : List ℕ) (words : List (List ℕ)) : Type 0 where
  pub legal : is_legal words ≡ true
  pub rest : List ℕ
  pub is : text ≡ written words ++ rest

words_start : (text : List ℕ) (words : List (List ℕ)) (found : Option (List ℕ)) → inside_at text ≡ found → option_map words_of found ≡ Some words → Starts text words
words_start text words None at is = absurd cc
words_start text words (Some inside) at is =
    let begins = inside_at-begins text inside at in
    let same : words_of inside ≡ words = cc in
    subst (Starts text) same (record { legal = begins.legal; rest = after inside text; is = written_at text inside begins })

reference_starts : (text : List ℕ) (words : List (List ℕ)) → reference_at text ≡ Some words → Starts text words
reference_starts text words is = words_start text words (inside_at text) refl is

reference_at-written : (words : List (List ℕ)) (rest : List ℕ) → is_legal words ≡ true → reference_at (written words ++ rest) ≡ Some words
reference_at-written words rest legal =
    ap reference_at (written-is words rest)
    ∙ ap (option_map words_of) (inside_at-written words rest legal)
    ∙ ap Some (words_of-dotted words (legal_some words legal) (legal_octets words legal))

written_length : (words : List (List ℕ)) → length (written words) ≡ suc (further words)
written_length words = simp length-append (omega arith)

-- exactly the references are found
pub finds : FindsSequences written IsLegalReference reference_at further
finds = record {
  legal = λ text words is. (reference_starts text words is).legal;
  is = λ text words is. let starts = reference_starts text words is in (starts.rest, starts.is);
  found = reference_at-written;
  count = λ words legal. written_length words;
}

-- the pieces of a text

pub pieces-octet : (c : ℕ) (rest : List ℕ) → inside_at (c ∷ rest) ≡ None → pieces_of (c ∷ rest) ≡ octet c ∷ pieces_of rest
pieces-octet c rest none = cuts.pieces-octet reference_at further c rest (ap (option_map words_of) none)

pub pieces-reference : (c : ℕ) (rest inside : List ℕ) → inside_at (c ∷ rest) ≡ Some inside → pieces_of (c ∷ rest) ≡ reference (words_of inside) ∷ pieces_of (drop (length inside + 2) rest)
pieces-reference c rest inside found =
    cuts.pieces-sequence reference_at further c rest (words_of inside) (ap (option_map words_of) found)
    ∙ ap (λ octets. reference (words_of inside) ∷ pieces_of (drop (length octets + 2) rest)) (dotted-words_of inside)

-- the computed pieces are a cut of the text
pub cuts_from : (skip : ℕ) (text : List ℕ) → CutsReferences (pieces_from reference_at further skip text) (drop skip text)
cuts_from skip text = cuts.cuts_from finds skip text

-- the octets of the reference with which a text begins

pub inside_written : (text inside : List ℕ) → inside_at text ≡ Some inside → text ≡ written (words_of inside) ++ drop (suc (length inside)) (drop 2 text)
inside_written text inside is = written_at text inside (inside_at-begins text inside is)

pub length-written : (inside : List ℕ) → length (written (words_of inside)) ≡ length inside + 3
length-written inside =
    let whole : length (dotted (words_of inside) ++ octet_of "}" ∷ []) ≡ length inside + 1 = omega (arith, length-append (dotted (words_of inside)) (octet_of "}" ∷ []), ap length (dotted-words_of inside)) in
    omega arith
