-- Texts whose outer spaces and tabs are dropped.
use Rattle.std.proofs.Common.{◌≡◌, ℕ, ◌+◌, ◌-◌, ◌<◌, ◌≤◌, Bool, true, false, cond, List, [], ◌∷◌, ◌++◌, length, take, drop, refl, sym, ap, ◌∙◌, arith}
use Rattle.std.specs.List.{prefix_len, suffix_len}
use Rattle.std.proofs.lemmas.Bool.{cond-true}
use Rattle.std.proofs.lemmas.List.{append-nil, length-drop, length-take-le}
use Rattle.octets.specs.Octet.{is_blank}
use Rattle.message_text.specs.Blanks.{trim_end, trim_start}

drop_by : (b : Bool) (n x : ℕ) (xs : List ℕ) → drop (cond b (1 + n) 0) (x ∷ xs) ≡ cond b (drop n xs) (x ∷ xs)
drop_by true n x xs = ap (λ k. drop k (x ∷ xs)) (let e : 1 + n ≡ Prim.Native.Nat.suc n = omega arith in e)
drop_by false n x xs = refl

trim_start-cons : (x : ℕ) (xs : List ℕ) → trim_start (x ∷ xs) ≡ cond (is_blank x) (trim_start xs) (x ∷ xs)
trim_start-cons x xs = drop_by (is_blank x) (prefix_len is_blank xs) x xs

-- the start of a text may be trimmed before more is added
pub trim_start-append : (a b : List ℕ) → trim_start (trim_start a ++ b) ≡ trim_start (a ++ b)
trim_start-append [] b = refl
trim_start-append (x ∷ a) b =
    let go : (blank : Bool) → is_blank x ≡ blank → trim_start (cond blank (trim_start a) (x ∷ a) ++ b) ≡ trim_start (x ∷ (a ++ b)) =
    elim [
      | true ↦ λ is. trim_start-append a b ∙ sym (trim_start-cons x (a ++ b) ∙ cond-true (is_blank x) (trim_start (a ++ b)) (x ∷ (a ++ b)) is)
      | false ↦ λ is. refl
    ] in
    ap (λ (front : List ℕ). trim_start (front ++ b)) (trim_start-cons x a) ∙ go (is_blank x) refl

pub trim_start-trim_start : (a : List ℕ) → trim_start (trim_start a) ≡ trim_start a
trim_start-trim_start a = ap trim_start (sym (append-nil (trim_start a))) ∙ trim_start-append a [] ∙ ap trim_start (append-nil a)

-- a text that begins with neither space nor tab keeps its start, whatever follows it
trim_start-onto : (x : ℕ) (a b : List ℕ) → trim_start (x ∷ a) ≡ x ∷ a → trim_start ((x ∷ a) ++ b) ≡ (x ∷ a) ++ b
trim_start-onto x a b trimmed =
    let shorter : length (trim_start a) ≤ length a = omega (arith, length-drop (prefix_len is_blank a) a) in
    let go : (blank : Bool) → cond blank (trim_start a) (x ∷ a) ≡ x ∷ a → cond blank (trim_start (a ++ b)) (x ∷ (a ++ b)) ≡ x ∷ (a ++ b) =
    elim [
      | true ↦ λ same. absurd (omega (arith, ap length same, shorter))
      | false ↦ λ _. refl
    ] in
    trim_start-cons x (a ++ b) ∙ go (is_blank x) (sym (trim_start-cons x a) ∙ trimmed)

pub trim_start-keeps : (a b : List ℕ) → 0 < length a → trim_start a ≡ a → trim_start (a ++ b) ≡ a ++ b
trim_start-keeps [] b some trimmed = absurd (omega arith)
trim_start-keeps (x ∷ a) b some trimmed = trim_start-onto x a b trimmed

-- a text truncated to the length of the text with its end trimmed is this text
pub take-trim_end : (a : List ℕ) → take (length (trim_end a)) a ≡ trim_end a
take-trim_end a = ap (λ n. take n a) (length-take-le (length a - suffix_len is_blank a) a (omega arith))
