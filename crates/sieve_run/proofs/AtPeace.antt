-- No two actions of a run conflict.
use Rattle.std.proofs.Common.{◌≡◌, ◌≤◌, suc, Bool, true, false, not, ◌||◌, cond, Option, None, Some, List, [], ◌∷◌, ◌++◌, filter, length, map, refl, sym, ap, subst, ◌∙◌, arith}
use Rattle.std.specs.Prelude.{⊤, if◌then◌else◌}
use Rattle.std.specs.List.{AllByRecursion, list_any}
use Rattle.std.specs.Option.{option_or}
use Rattle.sieve_delivery.specs.Delivery.{Arrival}
use Rattle.sieve_delivery.specs.State.{actions_in}
use Rattle.sieve_delivery.specs.declared.action.Action.{Action}
use Rattle.sieve_delivery.specs.declared.action.Action.TheVariants.{Store, Discard, Respond, Reject}
use Rattle.sieve_delivery.specs.declared.error.ErrorKind.{ErrorKind}
use Rattle.script_names.specs.declared.name.ScriptName.{ScriptName}
use Rattle.sieve_delivery.specs.Conflicts.{conflict_among, conflict_of, goes_with_rejections, is_rejection, is_response}
use Rattle.sieve_delivery.specs.Joining.{brought_by, joined_with, same_action}
use Rattle.sieve_run.specs.Library.{Lookup}
use Rattle.sieve_run.specs.Run.{verdict_of}
use Rattle.sieve_verdict.specs.Verdict.{actions_of}
use Rattle.sieve_run.proofs.Bounds.{IsKept, of_actions, verdict_holds}

-- the second of two actions can be performed if the first is there, since they don't conflict
abbrev GoesAfter : (there performed : Action) → Type 0
GoesAfter there performed = conflict_of performed there ≡ None

-- each action can be performed after those before it
abbrev AreAtPeace : List Action → Type 0
AreAtPeace [] = ⊤
AreAtPeace (action ∷ actions) = AllByRecursion (GoesAfter action) actions × AreAtPeace actions

-- ACTIONS THAT ARE JOINED

brought_performed : (action there a : Action) → conflict_of (brought_by action there) a ≡ conflict_of there a
brought_performed (Store mailbox flags filing) (Store other there kept) a = refl
brought_performed action there a = refl

brought_there : (action there a : Action) → conflict_of a (brought_by action there) ≡ conflict_of a there
brought_there (Store mailbox flags filing) (Store other there kept) a = refl
brought_there action there a = refl

module _ (action : Action) where
  joined_performed : (there a : Action) → conflict_of (joined_with action there) a ≡ conflict_of there a
  joined_performed there a = by (same_action action there)
    where
      by : (one : Bool) → conflict_of (if one then brought_by action there else there) a ≡ conflict_of there a
      by true = brought_performed action there a
      by false = refl

  joined_there : (there a : Action) → conflict_of a (joined_with action there) ≡ conflict_of a there
  joined_there there a = by (same_action action there)
    where
      by : (one : Bool) → conflict_of a (if one then brought_by action there else there) ≡ conflict_of a there
      by true = brought_there action there a
      by false = refl

  all_joined : (a : Action) (actions : List Action) → AllByRecursion (GoesAfter a) actions → AllByRecursion (GoesAfter (joined_with action a)) (map (joined_with action) actions)
  all_joined a [] all = tt
  all_joined a (b ∷ actions) all = (joined_performed b (joined_with action a) ∙ joined_there a b ∙ all.0, all_joined a actions all.1)

  peace_joined : (actions : List Action) → AreAtPeace actions → AreAtPeace (map (joined_with action) actions)
  peace_joined [] peace = tt
  peace_joined (a ∷ actions) peace = (all_joined a actions peace.0, peace_joined actions peace.1)

-- AN ACTION THAT IS ENTERED

first_none : (first rest : Option ErrorKind) → option_or first rest ≡ None → first ≡ None
first_none None rest none = refl
first_none (Some kind) rest none = absurd cc

rest_none : (first rest : Option ErrorKind) → option_or first rest ≡ None → rest ≡ None
rest_none None rest none = none
rest_none (Some kind) rest none = absurd cc

all_entered : (a : Action) (actions : List Action) (action : Action) → AllByRecursion (GoesAfter a) actions → GoesAfter a action → AllByRecursion (GoesAfter a) (actions ++ action ∷ [])
all_entered a [] action all one = (one, tt)
all_entered a (b ∷ actions) action all one = (all.0, all_entered a actions action all.1 one)

peace_entered : (action : Action) (actions : List Action) → conflict_among action actions ≡ None → AreAtPeace actions → AreAtPeace (actions ++ action ∷ [])
peace_entered action [] none peace = (tt, tt)
peace_entered action (a ∷ actions) none peace =
    let first = conflict_of action a in let rest = conflict_among action actions in
    (all_entered a actions action peace.0 (first_none first rest none), peace_entered action actions (rest_none first rest none) peace.1)

-- RUNS

at_peace : IsKept (λ s. AreAtPeace (actions_in s.entries))
at_peace = of_actions AreAtPeace peace_joined (λ action actions none apart room h. peace_entered action actions none h)

verdict_peace : (find : ScriptName → Lookup) (main : Option ScriptName) (arrival : Arrival) → AreAtPeace (actions_of (verdict_of find main arrival))
verdict_peace find main arrival = verdict_holds AreAtPeace tt at_peace find main arrival

-- RESPONSES

no_second_response : (there performed : Action) → GoesAfter there performed → is_response there ≡ true → is_response performed ≡ false
no_second_response (Respond there) (Respond response) goes is = absurd cc
no_second_response (Respond there) performed goes is = refl
no_second_response there performed goes is = absurd cc

no_more_responses : (a : Action) (actions : List Action) → is_response a ≡ true → AllByRecursion (GoesAfter a) actions → filter is_response actions ≡ []
no_more_responses a [] is all = refl
no_more_responses a (b ∷ actions) is all =
    ap (λ t. cond t (b ∷ filter is_response actions) (filter is_response actions)) (no_second_response a b all.0 is) ∙ no_more_responses a actions is all.1

few_responses : (actions : List Action) → AreAtPeace actions → length (filter is_response actions) ≤ 1
few_responses [] peace = omega arith
few_responses (a ∷ actions) peace = by (is_response a) refl (few_responses actions peace.1)
  where
    by : (b : Bool) → is_response a ≡ b → length (filter is_response actions) ≤ 1 → length (cond b (a ∷ filter is_response actions) (filter is_response actions)) ≤ 1
    by true is rest = subst (λ (l : List Action). suc (length l) ≤ 1) (sym (no_more_responses a actions is peace.0)) (omega arith)
    by false is rest = rest

-- a verdict has at most one response
pub verdict_responses : (find : ScriptName → Lookup) (main : Option ScriptName) (arrival : Arrival) → length (filter is_response (actions_of (verdict_of find main arrival))) ≤ 1
verdict_responses find main arrival = few_responses (actions_of (verdict_of find main arrival)) (verdict_peace find main arrival)

-- REJECTIONS

goes_after_rejection : (there performed : Action) → GoesAfter there performed → is_rejection there ≡ true → goes_with_rejections performed ≡ true
goes_after_rejection (Reject how reason) Discard goes is = refl
goes_after_rejection (Reject how reason) performed goes is = absurd cc
goes_after_rejection there performed goes is = absurd cc

goes_before_rejection : (there performed : Action) → GoesAfter there performed → is_rejection performed ≡ true → goes_with_rejections there ≡ true
goes_before_rejection Discard performed goes is = refl
goes_before_rejection there (Reject how reason) goes is = absurd cc
goes_before_rejection there performed goes is = absurd cc

rejection_alone : (a : Action) → is_rejection a ≡ true → not (goes_with_rejections a) ≡ true
rejection_alone (Reject how reason) is = refl
rejection_alone a is = absurd cc

all_go_after : (a : Action) (actions : List Action) → is_rejection a ≡ true → AllByRecursion (GoesAfter a) actions → filter (λ b. not (goes_with_rejections b)) actions ≡ []
all_go_after a [] is all = refl
all_go_after a (b ∷ actions) is all =
    ap (λ t. cond (not t) (b ∷ filter (λ c. not (goes_with_rejections c)) actions) (filter (λ c. not (goes_with_rejections c)) actions)) (goes_after_rejection a b all.0 is) ∙ all_go_after a actions is all.1

goes_before_all : (a : Action) (actions : List Action) → AllByRecursion (GoesAfter a) actions → list_any is_rejection actions ≡ true → goes_with_rejections a ≡ true
goes_before_all a [] all any = absurd cc
goes_before_all a (b ∷ actions) all any = by (is_rejection b) refl any (goes_before_all a actions all.1)
  where
    by : (r : Bool) → is_rejection b ≡ r → (r || list_any is_rejection actions) ≡ true → (list_any is_rejection actions ≡ true → goes_with_rejections a ≡ true) → goes_with_rejections a ≡ true
    by true is any rest = goes_before_rejection a b all.0 is
    by false is any rest = rest any

one_rejection : (actions : List Action) → AreAtPeace actions → list_any is_rejection actions ≡ true → length (filter (λ a. not (goes_with_rejections a)) actions) ≡ 1
one_rejection [] peace any = absurd cc
one_rejection (a ∷ actions) peace any = by (is_rejection a) refl any (one_rejection actions peace.1)
  where
    others : List Action
    others = filter (λ b. not (goes_with_rejections b)) actions

    by : (r : Bool) → is_rejection a ≡ r → (r || list_any is_rejection actions) ≡ true → (list_any is_rejection actions ≡ true → length others ≡ 1) → length (cond (not (goes_with_rejections a)) (a ∷ others) others) ≡ 1
    by true is any rest = ap (λ t. length (cond t (a ∷ others) others)) (rejection_alone a is) ∙ ap (λ (l : List Action). suc (length l)) (all_go_after a actions is peace.0)
    by false is any rest = ap (λ t. length (cond (not t) (a ∷ others) others)) (goes_before_all a actions peace.0 any) ∙ rest any

-- a verdict that rejects the message does so once, and its other actions discard the message
pub verdict_rejections : (find : ScriptName → Lookup) (main : Option ScriptName) (arrival : Arrival) → list_any is_rejection (actions_of (verdict_of find main arrival)) ≡ true
    → length (filter (λ a. not (goes_with_rejections a)) (actions_of (verdict_of find main arrival))) ≡ 1
verdict_rejections find main arrival any = one_rejection (actions_of (verdict_of find main arrival)) (verdict_peace find main arrival) any
