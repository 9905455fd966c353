-- Worked rows of walks, which the laws are about.
use Rattle.std.proofs.Common.{◌≡◌, true, false, List, [], ◌∷◌, None, refl, codes}
use Rattle.match_text.specs.declared.comparators.Collation.TheVariants.{Casemap}
use Rattle.sieve_script.specs.Reading.{Ask, field_values, compares, over_ask, keep_leaf, discard_leaf}
use Rattle.sieve_script.specs.declared.reading.MatchType.TheVariants.{Contains}
use Rattle.sieve_variables.specs.Part.{literal}
use Rattle.sieve_code.specs.Operation.{Operation, test_op, jump_op, jump_if_op, act_op, stop_op, return_op}
use Rattle.sieve_code.specs.Walk.{Walk, at_end, by_stop, by_return, cut_off, asked, acted, code_walk, walk_from, gone, met_ask, met_leaf, ended, unanswered}

abbrev list_ask : Ask
list_ask = compares (field_values None ((literal (codes "Subject") ∷ []) ∷ [])) (record { match_type = Contains; collation = Casemap }) ((literal (codes "[list]") ∷ []) ∷ [])

-- if anyof (header :contains "Subject" "[list]", size :over 1M) { keep; } else { discard; }
abbrev worked_code : List Operation
worked_code =
    test_op list_ask
    ∷ jump_if_op true 3
    ∷ test_op (over_ask 1048576)
    ∷ jump_if_op false 6
    ∷ act_op (keep_leaf None) 2
    ∷ jump_op 7
    ∷ act_op discard_leaf 4
    ∷ []

abbrev worked_walk : Walk
worked_walk = asked list_ask (acted (keep_leaf None) 2 at_end) (asked (over_ask 1048576) (acted (keep_leaf None) 2 at_end) (acted discard_leaf 4 at_end))

worked_code_row : code_walk worked_code 7 ≡ worked_walk
unfolding walk_from
worked_code_row = refl

-- five operations are too few only for the longest way through the code
cut_row : code_walk worked_code 5 ≡ asked list_ask (acted (keep_leaf None) 2 at_end) (asked (over_ask 1048576) (acted (keep_leaf None) 2 cut_off) (acted discard_leaf 4 at_end))
unfolding walk_from
cut_row = refl

stop_row : code_walk (stop_op ∷ act_op (keep_leaf None) 2 ∷ []) 2 ≡ by_stop
unfolding walk_from
stop_row = refl

return_row : code_walk (return_op ∷ act_op (keep_leaf None) 2 ∷ []) 2 ≡ by_return
unfolding walk_from
return_row = refl

answers_row : gone worked_walk (false ∷ true ∷ true ∷ []) ≡ record { met = met_ask list_ask ∷ met_ask (over_ask 1048576) ∷ met_leaf (keep_leaf None) 2 ∷ []; ending = ended }
unfolding gone
answers_row = refl

unanswered_row : gone worked_walk (false ∷ []) ≡ record { met = met_ask list_ask ∷ met_ask (over_ask 1048576) ∷ []; ending = unanswered }
unfolding gone
unanswered_row = refl
