use Rattle.std.proofs.Common.{◌≡◌, ◌∙◌, List, ℕ, [], ◌++◌, length, ap, sym, arith}
use Rattle.std.proofs.lemmas.List.{take_all, drop_all}
use Rattle.session_text.proofs.Lines.{first_line-last}
use Rattle.session_text.proofs.line.Line.last.Goals as goal

pub returns-then-pending-gt-MAX_LINE-clause-line : goal.returns-then-pending-gt-MAX_LINE-clause-line
returns-then-pending-gt-MAX_LINE-clause-line c =
    let found = first_line-last c.args.pending.now c.requires in
    rw found (omega arith)

-- in the pair that a cut is equal to, each text may be replaced by an equal one
renamed : (cut : List ℕ × List ℕ) (a b c d : List ℕ) → cut ≡ (b, d) → b ≡ a → d ≡ c → cut ≡ (a, c)
renamed cut a b c d is left right = is ∙ ap (λ (l : List ℕ). (l, d)) left ∙ ap (λ (l : List ℕ). (a, l)) right

pub returns-else-pending-gt-MAX_LINE-clause-line : goal.returns-else-pending-gt-MAX_LINE-clause-line
returns-else-pending-gt-MAX_LINE-clause-line c =
    let p = c.args.pending.now in
    renamed _ _ _ _ _ (first_line-last p c.requires) (sym (take_all (length p) p (omega arith))) (sym (ap (λ (l : List ℕ). l ++ []) (drop_all (length p) p (omega arith))))
