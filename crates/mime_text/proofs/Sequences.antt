-- A text in quoted-printable is found to begin with a sequence exactly where one is written there.
use Rattle.std.proofs.Common.{◌≡◌, ℕ, suc, Bool, true, false, ◌&&◌, ◌||◌, ◌==◌, nat_eq, nat_lt, cond, List, [], ◌∷◌, ◌++◌, length, take, drop, codes, None, Some, is_some, inl, inr, refl, sym, ap, ◌∙◌}
use Rattle.std.specs.List.{starts_with}
use Rattle.std.proofs.lemmas.Bool.{eqb-true, or_cases}
use Rattle.std.proofs.lemmas.List.{take-append-drop}
use lib.Pointwise.{pointwise, bytes_decides}
use Rattle.octets.specs.Hex.{hex_octet}
use Rattle.octets.specs.Octet.{octet_of}
use Rattle.text_cut.specs.Scan.{FindsSequences}
use Rattle.mime_text.specs.Lines.{end_len, is_line_end}
use Rattle.mime_text.specs.QuotedPrintable.{IsLegalQuoted, QuotedSequence, after_sign, escape, escape_at, further, is_legal, sequence_at, soft_end, written}

or_true : (b : Bool) → (b || true) ≡ true
or_true true = refl
or_true false = refl

-- THE END OF A LINE

end_there : (rest : List ℕ) (x y : Bool) → starts_with nat_eq rest (codes "\n") ≡ x → starts_with nat_eq rest (codes "\r\n") ≡ y → nat_lt 0 (cond x 1 (cond y 2 0)) ≡ true → is_line_end (take (cond x 1 (cond y 2 0)) rest) ≡ true
end_there rest true y feed both some = ap (λ b. b || pointwise nat_eq (codes "\r\n") (take 1 rest)) feed
end_there rest false true feed both some = ap (λ b. pointwise nat_eq (codes "\n") (take 2 rest) || b) both ∙ or_true (pointwise nat_eq (codes "\n") (take 2 rest))
end_there rest false false feed both some = absurd cc

is_end : (rest : List ℕ) → nat_lt 0 (end_len rest) ≡ true → is_line_end (take (end_len rest) rest) ≡ true
is_end rest some = end_there rest (starts_with nat_eq rest (codes "\n")) (starts_with nat_eq rest (codes "\r\n")) refl refl some

-- FOUND SEQUENCES

escape_legal : (rest : List ℕ) (s : QuotedSequence) → escape_at rest ≡ Some s → is_legal s ≡ true
escape_legal [] s found = absurd cc
escape_legal (h ∷ []) s found = absurd cc
escape_legal (h ∷ l ∷ rest) s found = by_test (is_some (hex_octet h l)) refl found
  where
    by_test : (b : Bool) → is_some (hex_octet h l) ≡ b → cond b (Some (escape h l)) None ≡ Some s → is_legal s ≡ true
    by_test true is found = let same : escape h l ≡ s = cc in ap is_legal (sym same) ∙ is
    by_test false is found = absurd cc

escape_is : (rest : List ℕ) (s : QuotedSequence) → escape_at rest ≡ Some s → (more : List ℕ) × (octet_of "=" ∷ rest ≡ written s ++ more)
escape_is [] s found = absurd cc
escape_is (h ∷ []) s found = absurd cc
escape_is (h ∷ l ∷ rest) s found = by_test (is_some (hex_octet h l)) found
  where
    by_test : (b : Bool) → cond b (Some (escape h l)) None ≡ Some s → (more : List ℕ) × (octet_of "=" ∷ h ∷ l ∷ rest ≡ written s ++ more)
    by_test true found = let same : escape h l ≡ s = cc in (rest, ap (λ t. written t ++ rest) same)
    by_test false found = absurd cc

after_legal : (rest : List ℕ) (s : QuotedSequence) (b : Bool) → nat_lt 0 (end_len rest) ≡ b → cond b (Some (soft_end (take (end_len rest) rest))) (escape_at rest) ≡ Some s → is_legal s ≡ true
after_legal rest s true some found = let same : soft_end (take (end_len rest) rest) ≡ s = cc in ap is_legal (sym same) ∙ is_end rest some
after_legal rest s false some found = escape_legal rest s found

after_is : (rest : List ℕ) (s : QuotedSequence) (b : Bool) → cond b (Some (soft_end (take (end_len rest) rest))) (escape_at rest) ≡ Some s → (more : List ℕ) × (octet_of "=" ∷ rest ≡ written s ++ more)
after_is rest s true found =
    let same : soft_end (take (end_len rest) rest) ≡ s = cc in
    (drop (end_len rest) rest, ap (λ (l : List ℕ). octet_of "=" ∷ l) (sym (take-append-drop (end_len rest) rest)) ∙ ap (λ t. written t ++ drop (end_len rest) rest) same)
after_is rest s false found = escape_is rest s found

legal : (text : List ℕ) (s : QuotedSequence) → sequence_at text ≡ Some s → IsLegalQuoted s
unfolding sequence_at
legal [] s found = absurd cc
legal (c ∷ rest) s found = by_test (c == octet_of "=") found
  where
    by_test : (b : Bool) → cond b (after_sign rest) None ≡ Some s → is_legal s ≡ true
    by_test true found = after_legal rest s (nat_lt 0 (end_len rest)) refl found
    by_test false found = absurd cc

is : (text : List ℕ) (s : QuotedSequence) → sequence_at text ≡ Some s → (rest : List ℕ) × (text ≡ written s ++ rest)
unfolding sequence_at
is [] s found = absurd cc
is (c ∷ rest) s found = by_test (c == octet_of "=") refl found
  where
    by_test : (b : Bool) → (c == octet_of "=") ≡ b → cond b (after_sign rest) None ≡ Some s → (more : List ℕ) × (c ∷ rest ≡ written s ++ more)
    by_test true same found = let there = after_is rest s (nat_lt 0 (end_len rest)) found in (there.0, ap (λ b. b ∷ rest) (eqb-true c (octet_of "=") same) ∙ there.1)
    by_test false same found = absurd cc

-- WRITTEN SEQUENCES

no_end : (h l : ℕ) (rest : List ℕ) (x y z : Bool) → nat_eq (octet_of "\n") h ≡ x → nat_eq (octet_of "\r") h ≡ y → nat_eq (octet_of "\n") l ≡ z → is_some (hex_octet h l) ≡ true → (let n : ℕ = cond (x && true) 1 (cond (y && (z && true)) 2 0) in n) ≡ 0
no_end h l rest true y z feed return second hex =
    let same : octet_of "\n" ≡ h = eqb-true (octet_of "\n") h feed in
    let none : false ≡ true = ap (λ c. is_some (hex_octet c l)) same ∙ hex in
    absurd cc
no_end h l rest false true z feed return second hex =
    let same : octet_of "\r" ≡ h = eqb-true (octet_of "\r") h return in
    let none : false ≡ true = ap (λ c. is_some (hex_octet c l)) same ∙ hex in
    absurd cc
no_end h l rest false false z feed return second hex = refl

escape_found : (h l : ℕ) (rest : List ℕ) → is_some (hex_octet h l) ≡ true → after_sign (h ∷ l ∷ rest) ≡ Some (escape h l)
escape_found h l rest hex =
    ap (λ n. cond (nat_lt 0 n) (Some (soft_end (take (end_len (h ∷ l ∷ rest)) (h ∷ l ∷ rest)))) (escape_at (h ∷ l ∷ rest)))
    (no_end h l rest (nat_eq (octet_of "\n") h) (nat_eq (octet_of "\r") h) (nat_eq (octet_of "\n") l) refl refl refl hex)
    ∙ ap (λ b. cond b (Some (escape h l)) None) hex

soft_found : (end rest : List ℕ) → is_line_end end ≡ true → after_sign (end ++ rest) ≡ Some (soft_end end)
soft_found end rest ends = elim (or_cases (pointwise nat_eq (codes "\n") end) (pointwise nat_eq (codes "\r\n") end) ends) [
  | inl feed ↦ ap (λ e. after_sign (e ++ rest)) (sym ((bytes_decides (codes "\n") end).0 feed)) ∙ ap (λ e. Some (soft_end e)) ((bytes_decides (codes "\n") end).0 feed)
  | inr both ↦ ap (λ e. after_sign (e ++ rest)) (sym ((bytes_decides (codes "\r\n") end).0 both)) ∙ ap (λ e. Some (soft_end e)) ((bytes_decides (codes "\r\n") end).0 both)
]

found : (s : QuotedSequence) (rest : List ℕ) → IsLegalQuoted s → sequence_at (written s ++ rest) ≡ Some s
unfolding sequence_at
found (escape h l) rest legal = escape_found h l rest legal
found (soft_end end) rest legal = soft_found end rest legal

count : (s : QuotedSequence) → IsLegalQuoted s → length (written s) ≡ suc (further s)
count (escape h l) legal = refl
count (soft_end end) legal = refl

pub finds : FindsSequences written IsLegalQuoted sequence_at further
finds = record { legal = legal; is = is; found = found; count = count }
