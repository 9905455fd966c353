-- No two actions of a run are one.
use Rattle.std.proofs.Common.{◌≡◌, Bool, true, false, Option, List, [], ◌∷◌, map, refl, ◌∙◌}
use Rattle.std.proofs.lemmas.Map.Keys.{IsDistinct-push}
use Rattle.std.specs.Cmp.{IsEquivalence}
use Rattle.std.specs.Cmp.Lexicographic.{nat_list_eq_equiv}
use Rattle.std.specs.List.{AllByRecursion, IsDistinct}
use Rattle.std.specs.Prelude.{if◌then◌else◌}
use Rattle.sieve_delivery.specs.Delivery.{Arrival}
use Rattle.sieve_delivery.specs.State.{actions_in}
use Rattle.sieve_delivery.specs.declared.action.Action.{Action}
use Rattle.sieve_delivery.specs.declared.action.Action.TheVariants.{Store, Redirect, Discard, Respond, Reject}
use Rattle.script_names.specs.declared.name.ScriptName.{ScriptName}
use Rattle.sieve_delivery.specs.Joining.{brought_by, joined_with, same_action}
use Rattle.sieve_run.specs.Distinct.{AreDistinctActions}
use Rattle.sieve_run.specs.Library.{Lookup}
use Rattle.sieve_run.specs.Run.{verdict_of}
use Rattle.sieve_verdict.specs.Verdict.{actions_of}
use Rattle.sieve_run.proofs.Bounds.{IsKept, of_actions, verdict_holds}

-- WHEN TWO ACTIONS ARE ONE

same_itself : (a : Action) → same_action a a ≡ true
same_itself (Store mailbox flags filing) = nat_list_eq_equiv.refl mailbox
same_itself (Redirect address) = nat_list_eq_equiv.refl address
same_itself Discard = refl
same_itself (Respond response) = refl
same_itself (Reject how reason) = refl

same_back : (a b : Action) → same_action a b ≡ same_action b a
same_back (Store mailbox flags filing) (Store other there kept) = nat_list_eq_equiv.symm mailbox other
same_back (Redirect address) (Redirect other) = nat_list_eq_equiv.symm address other
same_back Discard Discard = refl
same_back (Respond response) (Respond other) = refl
same_back (Reject how reason) (Reject other why) = refl
same_back a b = refl

same_too : (a b c : Action) → same_action a b ≡ true → same_action a c ≡ same_action b c
same_too (Store mailbox flags filing) (Store other there kept) (Store third more its) is = nat_list_eq_equiv.congr mailbox other third is
same_too (Store mailbox flags filing) (Store other there kept) c is = refl
same_too (Redirect address) (Redirect other) (Redirect third) is = nat_list_eq_equiv.congr address other third is
same_too (Redirect address) (Redirect other) c is = refl
same_too Discard Discard c is = refl
same_too (Respond response) (Respond other) c is = refl
same_too (Reject how reason) (Reject other why) c is = refl
same_too a b c is = absurd cc

same_equiv : IsEquivalence same_action
same_equiv = record { refl = same_itself; symm = same_back; congr = same_too }

-- ACTIONS THAT ARE JOINED

-- an action that another is joined to is one with the same actions as before
brought_same : (action there a : Action) → same_action a (brought_by action there) ≡ same_action a there
brought_same (Store mailbox flags filing) (Store other there kept) (Store third more its) = refl
brought_same (Store mailbox flags filing) (Store other there kept) a = refl
brought_same action there a = refl

module _ (action : Action) where
  joined_same : (there a : Action) → same_action a (joined_with action there) ≡ same_action a there
  joined_same there a = by (same_action action there)
    where
      by : (one : Bool) → same_action a (if one then brought_by action there else there) ≡ same_action a there
      by true = brought_same action there a
      by false = refl

  both_joined : (a b : Action) → same_action (joined_with action a) (joined_with action b) ≡ same_action a b
  both_joined a b = joined_same b (joined_with action a) ∙ same_back (joined_with action a) b ∙ joined_same a b ∙ same_back b a

  apart_joined : (a : Action) (actions : List Action) → AllByRecursion (λ b. same_action a b ≡ false) actions → AllByRecursion (λ b. same_action (joined_with action a) b ≡ false) (map (joined_with action) actions)
  apart_joined a [] apart = tt
  apart_joined a (b ∷ actions) apart = (both_joined a b ∙ apart.0, apart_joined a actions apart.1)

  distinct_joined : (actions : List Action) → AreDistinctActions actions → AreDistinctActions (map (joined_with action) actions)
  unfolding IsDistinct
  distinct_joined [] distinct = tt
  distinct_joined (a ∷ actions) distinct = (apart_joined a actions distinct.0, distinct_joined actions distinct.1)

-- RUNS

-- the actions so far are distinct
apart : IsKept (λ s. AreDistinctActions (actions_in s.entries))
apart = of_actions AreDistinctActions distinct_joined (λ action actions none apart room h. IsDistinct-push same_equiv actions action h apart)

none_distinct : AreDistinctActions []
unfolding IsDistinct
none_distinct = tt

-- the actions of a verdict are distinct
pub verdict_distinct : (find : ScriptName → Lookup) (main : Option ScriptName) (arrival : Arrival) → AreDistinctActions (actions_of (verdict_of find main arrival))
verdict_distinct find main arrival = verdict_holds AreDistinctActions none_distinct apart find main arrival
