-- The code of conditions asks what the conditions ask.
use Rattle.std.proofs.Common.{◌≡◌, Bool, true, false, not, ◌∷◌, length, refl, ◌∙◌}
use Rattle.sieve_script.specs.Reading.{Ask}
use Rattle.sieve_script.specs.Script as script
use Rattle.sieve_script.specs.Script.{Condition, always, never, negated, all_hold, any_holds, Conditions, no_conditions, one_condition}
use Rattle.sieve_code.specs.Choice.{Tail, condition_before, joined_before, list_before}
use Rattle.sieve_code.specs.Operation.{set_op, invert_op, test_op, jump_if_op}
use Rattle.sieve_code.specs.Walk.{Walk, condition_walk, all_walk, any_walk}
use Rattle.sieve_code.proofs.Tails.{Walks, Ends, Forward, ends_self, ends_more, ends_trans, walks_sets, walks_inverts, walks_asks, walks_jumps_if, forward_plain, forward_jumps_if, landed}

-- The operations before a tail ask what a condition asks. They go on in the tail with its truth in
-- the register.
pub record IsConditionCode (before : Tail → Tail) (c : Condition) : Type 0 where
  pub ends : (after : Tail) → Ends (before after) after
  pub forward : (after : Tail) → Forward after → Forward (before after)
  pub walks : (after : Tail) (does : Bool → Walk) → Walks after does → Walks (before after) (λ r. condition_walk c (does true) (does false))

always_code : IsConditionCode (λ after. set_op true ∷ after) always
unfolding condition_walk
always_code = record {
  ends = λ after. ends_more (set_op true) after after (ends_self after);
  forward = λ after f. forward_plain (set_op true) after refl f;
  walks = λ after does w. walks_sets after does w true;
}

never_code : IsConditionCode (λ after. set_op false ∷ after) never
unfolding condition_walk
never_code = record {
  ends = λ after. ends_more (set_op false) after after (ends_self after);
  forward = λ after f. forward_plain (set_op false) after refl f;
  walks = λ after does w. walks_sets after does w false;
}

asks_code : (ask : Ask) → IsConditionCode (λ after. test_op ask ∷ after) (script.asks ask)
unfolding condition_walk
asks_code ask = record {
  ends = λ after. ends_more (test_op ask) after after (ends_self after);
  forward = λ after f. forward_plain (test_op ask) after refl f;
  walks = λ after does w. walks_asks after does w ask;
}

negated_code : (before : Tail → Tail) (c : Condition) → IsConditionCode before c → IsConditionCode (λ after. before (invert_op ∷ after)) (negated c)
unfolding condition_walk
negated_code before c code = record {
  ends = λ after. ends_trans (before (invert_op ∷ after)) (invert_op ∷ after) after (code.ends (invert_op ∷ after)) (ends_more invert_op after after (ends_self after));
  forward = λ after f. code.forward (invert_op ∷ after) (forward_plain invert_op after refl f);
  walks = λ after does w. code.walks (invert_op ∷ after) (λ r. does (not r)) (walks_inverts after does w);
}

-- the code of a condition is the code of each condition that has the same walk
like_code : (before : Tail → Tail) (c d : Condition) → ((held failed : Walk) → condition_walk c held failed ≡ condition_walk d held failed) → IsConditionCode before c → IsConditionCode before d
like_code before c d same code = record {
  ends = code.ends;
  forward = code.forward;
  walks = λ after does w. record { by = λ n le r. (code.walks after does w).by n le r ∙ same (does true) (does false) };
}

-- LISTS

-- Joined conditions, where a condition with that truth decides. They are all of them for false, and
-- any of them for true.
abbrev pub joined_by : Bool → Conditions → Condition
joined_by false cs = all_hold cs
joined_by true cs = any_holds cs

none_code : (truth : Bool) → IsConditionCode (λ after. set_op (not truth) ∷ after) (joined_by truth no_conditions)
unfolding condition_walk all_walk any_walk
none_code true = like_code (λ after. set_op false ∷ after) never (any_holds no_conditions) (λ h f. refl) never_code
none_code false = like_code (λ after. set_op true ∷ after) always (all_hold no_conditions) (λ h f. refl) always_code

one_code : (truth : Bool) (before : Tail → Tail) (c : Condition) → IsConditionCode before c → IsConditionCode before (joined_by truth (one_condition c no_conditions))
unfolding condition_walk all_walk any_walk
one_code true before c code = like_code before c (any_holds (one_condition c no_conditions)) (λ h f. refl) code
one_code false before c code = like_code before c (all_hold (one_condition c no_conditions)) (λ h f. refl) code

-- a condition, a jump past the others, and the others
abbrev pub more_before : Bool → (before others : Tail → Tail) → Tail → Tail
more_before truth before others after = before (jump_if_op truth (length after) ∷ others after)

joint_code : (truth : Bool) (before others : Tail → Tail) (c : Condition) (cs : Conditions) → IsConditionCode before c → IsConditionCode others (joined_by truth cs) → IsConditionCode (more_before truth before others) (joined_by truth (one_condition c cs))
unfolding condition_walk all_walk any_walk
joint_code true before others c cs code more = record {
  ends = λ after. ends_trans _ _ after (code.ends (jump_if_op true (length after) ∷ others after)) (ends_more _ _ after (more.ends after));
  forward = λ after f. code.forward _ (forward_jumps_if true _ after (more.ends after) (more.forward after f));
  walks = λ after does w. code.walks (jump_if_op true (length after) ∷ others after) (λ r. landed true r (does r) (any_walk cs (does true) (does false))) (walks_jumps_if (others after) after does (more.ends after) w true _ (more.walks after does w));
}
joint_code false before others c cs code more = record {
  ends = λ after. ends_trans _ _ after (code.ends (jump_if_op false (length after) ∷ others after)) (ends_more _ _ after (more.ends after));
  forward = λ after f. code.forward _ (forward_jumps_if false _ after (more.ends after) (more.forward after f));
  walks = λ after does w. code.walks (jump_if_op false (length after) ∷ others after) (λ r. landed false r (does r) (all_walk cs (does true) (does false))) (walks_jumps_if (others after) after does (more.ends after) w false _ (more.walks after does w));
}

-- the code of a list of conditions that isn't empty is that of the joined conditions
abbrev ListCode : Bool → Conditions → Type 0
ListCode truth no_conditions = Unit {0}
ListCode truth (one_condition c cs) = IsConditionCode (list_before truth (one_condition c cs)) (joined_by truth (one_condition c cs))

more_code : (truth : Bool) (c : Condition) (cs : Conditions) → IsConditionCode (condition_before c) c → ListCode truth cs → ListCode truth (one_condition c cs)
unfolding list_before
more_code truth c no_conditions code more = one_code truth (condition_before c) c code
more_code truth c (one_condition d ds) code more = joint_code truth (condition_before c) (list_before truth (one_condition d ds)) c (one_condition d ds) code more

joined_code : (truth : Bool) (cs : Conditions) → ListCode truth cs → IsConditionCode (joined_before truth cs) (joined_by truth cs)
unfolding joined_before list_before
joined_code truth no_conditions more = none_code truth
joined_code truth (one_condition c cs) more = more

mutual
  unfolding condition_before

  pub condition_code : (c : Condition) → IsConditionCode (condition_before c) c
  condition_code always = always_code
  condition_code never = never_code
  condition_code (script.asks ask) = asks_code ask
  condition_code (negated c) = negated_code (condition_before c) c (condition_code c)
  condition_code (all_hold cs) = joined_code false cs (list_code false cs)
  condition_code (any_holds cs) = joined_code true cs (list_code true cs)

  list_code : (truth : Bool) (cs : Conditions) → ListCode truth cs
  list_code truth no_conditions = tt
  list_code truth (one_condition c cs) = more_code truth c cs (condition_code c) (list_code truth cs)
