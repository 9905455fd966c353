-- The name and the colon of a field's first line.
use Rattle.std.proofs.Common.{◌≡◌, ℕ, ◌-◌, true, false, List, length, take, sym, ap, subst, ◌∙◌, arith}
use Rattle.std.specs.List.{All, list_any, position_or_len, suffix_len}
use Rattle.std.proofs.lemmas.Bool.{and_left, and_right, and_from, false_from_ne_true}
use Rattle.std.proofs.lemmas.List.{get_or_default, length-take-le, take-take}
use Rattle.std.proofs.lemmas.List.Folds.{list_any_at, list_any_none}
use Rattle.std.proofs.lemmas.List.Sums.{position_or_len_is}
use Rattle.memchr.specs.Find.{NoneBefore, Nowhere, Passes, is_byte}
use Rattle.octets.specs.Octet.{is_blank, octet_of}
use Rattle.message_text.specs.Blanks.{trim_end}
use Rattle.message_text.specs.Fields.{begins_field, is_colon, is_name, name_in}
use Rattle.message_text.specs.view.Heads.{IsHead}

abbrev pub Colon : List ℕ → ℕ → Type 0
Colon line = Passes (is_byte (octet_of ":")) line

pub no_colon : (line : List ℕ) → Nowhere (Colon line) 0 (length line) → begins_field line ≡ false
no_colon line nowhere =
    let Plain : ℕ → Type 0 = λ b. is_colon b ≡ true in
    let each : All (λ b. is_colon b ≡ false) line =
    λ k d below. false_from_ne_true _ (λ is. nowhere k (omega arith) below (subst Plain (get_or_default line k d 0 below) is)) in
    and_left (list_any is_colon line) (is_name (name_in line)) (list_any_none is_colon line each)

-- a colon before which there is none is the first colon of the line
place : (line : List ℕ) (k : ℕ) → NoneBefore (Colon line) 0 (length line) k → Colon line k → position_or_len is_colon line ≡ k
place line k first colon =
    let within = first.high in
    position_or_len_is is_colon line k 0 (omega arith)
    (λ j below. false_from_ne_true _ (λ is. first.before j (omega arith) below is)) (λ _. colon)

name_at : (line : List ℕ) (k : ℕ) → NoneBefore (Colon line) 0 (length line) k → Colon line k → name_in line ≡ trim_end (take k line)
name_at line k first colon = ap (λ n. trim_end (take n line)) (place line k first colon)

pub no_name : (line : List ℕ) (k : ℕ) (name : List ℕ) → NoneBefore (Colon line) 0 (length line) k → Colon line k → name ≡ trim_end (take k line) → is_name name ≡ false → begins_field line ≡ false
no_name line k name first colon is none =
    and_right (list_any is_colon line) (is_name (name_in line)) (ap is_name (name_at line k first colon ∙ sym is) ∙ none)

pub head : (line : List ℕ) (k : ℕ) (name : List ℕ) → NoneBefore (Colon line) 0 (length line) k → Colon line k → name ≡ trim_end (take k line) → is_name name ≡ true → IsHead line (length name) k
head line k name first colon is some =
    let within = first.high in
    let front = take k line in
    let kept = length front - suffix_len is_blank front in
    let len : length front ≡ k = length-take-le k line (omega arith) in
    let fits : length name ≡ kept = ap length is ∙ length-take-le kept front (omega arith) in
    let same : name_in line ≡ name = name_at line k first colon ∙ sym is in
    record {
      begins = and_from (list_any is_colon line) (is_name (name_in line)) (list_any_at is_colon line k 0 within colon) (ap is_name same ∙ some);
      within = within;
      ordered = omega arith;
      at_colon = place line k first colon;
      name = same ∙ is ∙ take-take kept k line (omega arith) ∙ ap (λ n. take n line) (sym fits);
    }
