-- Lines with their ends.
use Rattle.std.proofs.Common.{◌≡◌, ℕ, suc, ◌+◌, ◌<◌, false, ◌==◌, cond, List, [], ◌∷◌, ◌++◌, length, take, drop, get_or, refl, sym, ap, subst, ◌∙◌, arith}
use Rattle.std.specs.List.{All, onto_first}
use Rattle.std.proofs.lemmas.Bool.{eqb-true}
use Rattle.std.proofs.lemmas.List.{drop_all, drop_more, take-append-drop, take_all, take_more}
use Rattle.memchr.specs.Find.{Nowhere, Passes, is_byte}
use Rattle.message_text.proofs.LineLemmas.{plain_before}
use Rattle.octets.specs.Octet.{octet_of}
use Rattle.mime_text.specs.Lines.{ended_lines}

abbrev Plain : List ℕ → Type 0
Plain line = All (λ b. (b == octet_of "\n") ≡ false) line

plain_rest : (c : ℕ) (line : List ℕ) → Plain (c ∷ line) → Plain line
plain_rest c line plain = λ k d below. plain (suc k) d (omega (arith, below))

-- a line goes up to the first LF, which ends it
pub line_fed : (line rest : List ℕ) → Plain line → ended_lines (line ++ octet_of "\n" ∷ rest) ≡ (line ++ octet_of "\n" ∷ []) ∷ ended_lines rest
unfolding ended_lines
line_fed [] rest plain = refl
line_fed (c ∷ line) rest plain =
    ap (λ b. cond b ((c ∷ []) ∷ ended_lines (line ++ octet_of "\n" ∷ rest)) (onto_first c (ended_lines (line ++ octet_of "\n" ∷ rest)))) (plain 0 c (omega arith))
    ∙ ap (onto_first c) (line_fed line rest (plain_rest c line plain))

-- a text that has octets, and no LF, is one line
pub line_last : (line : List ℕ) → 0 < length line → Plain line → ended_lines line ≡ line ∷ []
unfolding ended_lines
line_last [] some plain = absurd (omega (arith, some))
line_last (c ∷ []) some plain = ap (λ b. cond b ((c ∷ []) ∷ []) ((c ∷ []) ∷ [])) (plain 0 c (omega arith))
line_last (c ∷ d ∷ line) some plain =
    ap (λ b. cond b ((c ∷ []) ∷ ended_lines (d ∷ line)) (onto_first c (ended_lines (d ∷ line)))) (plain 0 c (omega arith))
    ∙ ap (onto_first c) (line_last (d ∷ line) (omega arith) (plain_rest c (d ∷ line) plain))

pub no_lines : ended_lines [] ≡ []
unfolding ended_lines
no_lines = refl

-- the first line of a text, by the place of its LF
pub fed_at : (text : List ℕ) (feed : ℕ) → Nowhere (Passes (is_byte (octet_of "\n")) text) 0 feed → feed < length text → Passes (is_byte (octet_of "\n")) text feed
    → ended_lines text ≡ take (feed + 1) text ∷ ended_lines (drop (feed + 1) text)
fed_at text feed nowhere short fed =
    let at_feed : get_or text feed 0 ≡ octet_of "\n" = eqb-true (get_or text feed 0) (octet_of "\n") fed in
    let cut : text ≡ take feed text ++ octet_of "\n" ∷ drop (feed + 1) text =
    sym (take-append-drop feed text) ∙ ap (λ (end : List ℕ). take feed text ++ end) (drop_more text feed 0 short) ∙ ap (λ b. take feed text ++ b ∷ drop (feed + 1) text) at_feed in
    let front : take feed text ++ octet_of "\n" ∷ [] ≡ take (feed + 1) text = ap (λ b. take feed text ++ b ∷ []) (sym at_feed) ∙ sym (take_more text feed 0 short) in
    ap ended_lines cut ∙ line_fed (take feed text) (drop (feed + 1) text) (plain_before text feed (omega arith) nowhere)
    ∙ ap (λ (line : List ℕ). line ∷ ended_lines (drop (feed + 1) text)) front

pub whole_line : (text : List ℕ) → 0 < length text → Nowhere (Passes (is_byte (octet_of "\n")) text) 0 (length text) → ended_lines text ≡ take (length text) text ∷ ended_lines (drop (length text) text)
whole_line text some nowhere =
    let plain : Plain text = subst Plain (take_all (length text) text (omega arith)) (plain_before text (length text) (omega arith) nowhere) in
    line_last text some plain
    ∙ ap (λ (line : List ℕ). line ∷ []) (sym (take_all (length text) text (omega arith)))
    ∙ ap (λ (rest : List (List ℕ)). take (length text) text ∷ rest) (sym (ap ended_lines (drop_all (length text) text (omega arith)) ∙ no_lines))
