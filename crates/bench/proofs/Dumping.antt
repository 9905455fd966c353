-- The lines of code, one after another.
use Rattle.std.proofs.Common.{◌≡◌, ℕ, ◌+◌, ◌<◌, ◌≤◌, List, [], ◌∷◌, ◌++◌, drop, length, get_or, sym, ap, ◌∙◌, refl, arith}
use Rattle.std.proofs.lemmas.List.{drop_more, drop_all}
use Rattle.std.proofs.lemmas.Option.{slice_get-get_or}
use Rattle.sieve_dump.specs.Dump.{line_at, line_of, line_text}
use Rattle.sieve_code.specs.Operation.{Operation}
use Rattle.bench.specs.Dump.{lines_from}

at_first : (place : ℕ) (op : Operation) (ops : List Operation) → lines_from place (op ∷ ops) ≡ line_text place op ++ lines_from (place + 1) ops
unfolding lines_from
at_first place op ops = refl

-- the lines of code from a place on are the line at that place and the lines after it
lines_at : (ops : List Operation) (i : ℕ) (op : Operation) → i < length ops → lines_from i (drop i ops) ≡ line_at ops i ++ lines_from (i + 1) (drop (i + 1) ops)
lines_at ops i op within =
    ap (lines_from i) (drop_more ops i op within)
    ∙ at_first i (get_or ops i op) (drop (i + 1) ops)
    ∙ sym (ap (λ o. line_of i o ++ lines_from (i + 1) (drop (i + 1) ops)) (slice_get-get_or ops i op within))

pub lines_cut : (ops : List Operation) (i : ℕ) → i < length ops → lines_from i (drop i ops) ≡ line_at ops i ++ lines_from (i + 1) (drop (i + 1) ops)
lines_cut [] i within = absurd (omega (arith, within))
lines_cut (op ∷ ops) i within = lines_at (op ∷ ops) i op within

pub no_lines : (ops : List Operation) (i : ℕ) → length ops ≤ i → lines_from i (drop i ops) ≡ []
unfolding lines_from
no_lines ops i all = ap (lines_from i) (drop_all i ops all)
