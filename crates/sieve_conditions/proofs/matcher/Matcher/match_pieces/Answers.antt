use Rattle.std.proofs.Common.{◌∙◌, ℕ, List, ap, sym}
use Rattle.sieve_conditions.specs.Matching.{first_match, match_of, pairs_with}
use Rattle.sieve_conditions.proofs.Keyed.{keys_of_empty, keys_of_filled}
use Rattle.sieve_conditions.proofs.Searching.{answers_so, or_none}
use Rattle.sieve_conditions.proofs.matcher.Matcher.match_pieces.Goals as goal

pub returns-then-is_empty : goal.returns-then-is_empty
returns-then-is_empty c =
    let comparison = c.args.self.now.comparison in
    let value = c.args.value.now in
    let key = c.args.key.now in
    answers_so c.match_of.result _ _
    (sym (or_none (match_of comparison value key)) ∙ ap (λ (keys : List (List ℕ)). first_match comparison (pairs_with keys value)) (sym (keys_of_empty key (sym c.is_empty.ensures ∙ c.if-is_empty.true))))
    c.match_of.ensures

pub loop-piece-init : goal.loop-piece-init
loop-piece-init c =
    ap (λ (keys : List (List ℕ)). first_match c.args.self.now.comparison (pairs_with keys c.args.value.now)) (keys_of_filled c.args.key.now (sym c.is_empty.ensures ∙ c.if-is_empty.false))
