-- Facts on the state of a run that hold from its start to its end. It has no more actions than it
-- may have, and no more scripts were entered than may be.
use Rattle.std.proofs.Common.{◌≡◌, inl, inr, ℕ, zero, suc, ◌≤◌, Bool, true, false, ◌&&◌, Option, None, Some, List, [], ◌∷◌, ◌++◌, length, map, nat_lt, refl, ap, subst, sym, ◌∙◌, append-nil, append_assoc, arith}
use Rattle.std.proofs.lemmas.Bool.Decides.{nat_tests}
use Rattle.std.proofs.lemmas.List.{length_push, length-map, map-append}
use Rattle.std.specs.Prelude.{if◌then◌else◌}
use Rattle.std.specs.List.{list_any}
use Rattle.message_text.specs.Addresses.{addresses_of}
use Rattle.sieve_limits.specs.Limits.{action_limit, include_depth, include_limit}
use Rattle.sieve_script.specs.Reading.{plain_settings, Leaf, keep_leaf, fileinto_leaf, redirect_leaf, discard_leaf, set_leaf, flag_leaf, include_leaf, vacation_leaf, reject_leaf}
use Rattle.sieve_script.specs.declared.reading.FlagChange.{FlagChange}
use Rattle.sieve_script.specs.Script.{Commands}
use Rattle.sieve_code.specs.Walk.{Walk, at_end, by_stop, by_return, cut_off, asked, acted, script_walk}
use Rattle.sieve_delivery.specs.Delivery.{Arrival, Delivery, inside}
use Rattle.sieve_run.specs.Origin.{ComesOf}
use Rattle.sieve_run.specs.Library.{Lookup, missing, invalid, present, found_at}
use Rattle.sieve_verdict.specs.Verdict.{actions_of}
use Rattle.sieve_conditions.specs.Matching.{after_test, truth_of}
use Rattle.sieve_run.specs.Perform.{perform}
use Rattle.sieve_delivery.specs.Act.{changes, gives, held_flags, changed_flags}
use Rattle.sieve_delivery.specs.Conflicts.{conflict_among}
use Rattle.sieve_delivery.specs.Ending.{Ending, goes_on, returned, stopped, failed, state_after}
use Rattle.sieve_delivery.specs.Joining.{same_action, joined_entry, joined_with}
use Rattle.sieve_delivery.specs.Performing.{deed_of, Performed, accepted, refused, unless, entry_at, ends_with, performs, fails_at}
use Rattle.sieve_delivery.specs.Sending.{may_be_from, only_address, redirects, response_of}
use Rattle.sieve_delivery.specs.Storing.{store_deed, filing_of, is_mailbox, may_be_used, flags_named}
use Rattle.sieve_run.specs.Run.{entering, included, include_of, includes, is_running, is_script, is_there, looked_up, act_of, and_then, answer_of, begun, chosen, delivery_to, exec, resumed, run_of, running, verdict_at, verdict_after, verdict_of, with_found_script, with_lookup}
use Rattle.sieve_delivery.specs.State.{Entered, RunState, actions_in}
use Rattle.sieve_delivery.specs.declared.ending.Ending as endings
use Rattle.sieve_delivery.specs.declared.ending.Ending.TheVariants as ending
use Rattle.script_names.specs.declared.name.ScriptName.{ScriptName}
use Rattle.sieve_delivery.specs.declared.action.Deed.{Deed}
use Rattle.sieve_delivery.specs.declared.action.Action.{Action}
use Rattle.sieve_delivery.specs.declared.action.Action.TheVariants.{Redirect, Discard, Respond, Reject}
use Rattle.sieve_delivery.specs.declared.error.ErrorKind.{ErrorKind}
use Rattle.sieve_delivery.specs.declared.error.ErrorKind.TheVariants.{BadAddress, BadMailbox, TooManyActions, TooManyGlobals, IncludeCount}
use Rattle.sieve_delivery.specs.view.Ending.{ending_by}
use Rattle.sieve_run.specs.view.Step.{Acts, doing}
use Rattle.sieve_variables.specs.Modifier.{modified}
use Rattle.sieve_variables.specs.Part.{Part}
use Rattle.sieve_variables.specs.Value.{Values, has_room_for, resumed_values, text_value, variable_value, with_variable}
use Rattle.sieve_variables.specs.Variable.{Variable}
use Rattle.flag_lists.specs.Flags.{flag_list}
use Rattle.sieve_run.proofs.Performing.{does_walk}

-- A fact on the state of a run holds after an action is performed, if it holds in two cases. In one
-- the action joins others, and in the other it is entered. A refused action leaves the state. An
-- action that isn't refused conflicts with no other. An entered one isn't there yet and has room.
module _ (Holds : RunState → Type 0) (delivery : Delivery) (line : ℕ) (deed : Deed) (s : RunState) where
  -- the fact holds after this result of performing an action
  abbrev Becomes : Performed → Type 0
  Becomes performed = Holds (state_after (ends_with delivery line deed performed s))

  pub performed_holds : Holds s
      → (conflict_among deed.action (actions_in s.entries) ≡ None → Becomes (accepted (map (joined_entry deed.action) s.entries)))
      → (conflict_among deed.action (actions_in s.entries) ≡ None → list_any (same_action deed.action) (actions_in s.entries) ≡ false → nat_lt (length s.entries) action_limit ≡ true
      → Becomes (accepted (s.entries ++ entry_at delivery line deed.action ∷ [])))
      → Holds (state_after (performs delivery line deed s))
  performed_holds h joins enters =
      by (conflict_among deed.action (actions_in s.entries)) (list_any (same_action deed.action) (actions_in s.entries)) (nat_lt (length s.entries) action_limit) joins enters
    where
      by : (conflict : Option ErrorKind) (there room : Bool)
          → (conflict ≡ None → Becomes (accepted (map (joined_entry deed.action) s.entries)))
          → (conflict ≡ None → there ≡ false → room ≡ true → Becomes (accepted (s.entries ++ entry_at delivery line deed.action ∷ [])))
          → Becomes (unless conflict (if there then accepted (map (joined_entry deed.action) s.entries) else if room then accepted (s.entries ++ entry_at delivery line deed.action ∷ []) else refused TooManyActions))
      by (Some kind) there room joins enters = h
      by None true room joins enters = joins refl
      by None false true joins enters = enters refl refl refl
      by None false false joins enters = h

-- The changes that have to keep a fact on the state of a run, so that it holds throughout.
-- Variables, internal flags or looked-up names change. An action is performed. A script is entered
-- where there is room for one more.
pub record IsKept (Holds : RunState → Type 0) : Type 0 where
  pub values : (s : RunState) (values : Values) → Holds s → Holds (record s { values = values })
  pub flags : (s : RunState) (flags : List (List ℕ)) → Holds s → Holds (record s { flags = flags })
  pub lookups : (s : RunState) (lookups : List (ScriptName × Bool)) → Holds s → Holds (record s { lookups = lookups })
  pub acts : (delivery : Delivery) (line : ℕ) (deed : Deed) (s : RunState) → Holds s → Holds (state_after (performs delivery line deed s))
  pub enters : (name : ScriptName) (s : RunState) → nat_lt include_limit (length s.entered) ≡ false → Holds s → Holds (entering name s)

module _ (Holds : RunState → Type 0) (kept : IsKept Holds) where
  -- the fact holds of the state in which commands ended
  abbrev Ends : Ending → Type 0
  Ends e = Holds (state_after e)

  allowed : (delivery : Delivery) (line : ℕ) (kind : ErrorKind) (deed : Deed) (s : RunState) → Holds s → (may : Bool) → Ends (if may then performs delivery line deed s else fails_at delivery line kind s)
  allowed delivery line kind deed s h true = kept.acts delivery line deed s h
  allowed delivery line kind deed s h false = h

  redirected : (delivery : Delivery) (line : ℕ) (address : Option (List ℕ)) (copy : Bool) (s : RunState) → Holds s → Ends (redirects delivery line address copy s)
  redirected delivery line None copy s h = h
  redirected delivery line (Some address) copy s h = kept.acts delivery line (deed_of (Redirect address) copy) s h

  given_by : (delivery : Delivery) (line : ℕ) (variable : Variable) (value : List ℕ) (s : RunState) → Holds s → (room : Bool) → Ends (if room then goes_on (record s { values = with_variable variable value s.values }) else fails_at delivery line TooManyGlobals s)
  given_by delivery line variable value s h true = kept.values s (with_variable variable value s.values) h
  given_by delivery line variable value s h false = h

  given : (delivery : Delivery) (line : ℕ) (variable : Variable) (value : List ℕ) (s : RunState) → Holds s → Ends (gives delivery line variable value s)
  given delivery line variable value s h = given_by delivery line variable value s h (has_room_for variable s.values)

  changed : (delivery : Delivery) (line : ℕ) (how : FlagChange) (variable : Option Variable) (texts : List (List Part)) (s : RunState) → Holds s → Ends (changes delivery line how variable texts s)
  changed delivery line how None texts s h = kept.flags s (changed_flags how s.flags (flags_named s texts)) h
  changed delivery line how (Some variable) texts s h =
      given delivery line variable (held_flags (changed_flags how (flag_list (variable_value s.values variable)) (flags_named s texts))) s h

  -- INCLUDES

  resumed_holds : (before : Values) (e : Ending) → Ends e → Ends (resumed before e)
  resumed_holds before (goes_on s) h = kept.values s (resumed_values before s.values) h
  resumed_holds before (returned s) h = kept.values s (resumed_values before s.values) h
  resumed_holds before (stopped s) h = kept.values s (resumed_values before s.values) h
  resumed_holds before (failed error s) h = kept.values s (resumed_values before s.values) h

  optional_holds : (delivery : Delivery) (line : ℕ) (enter : Commands → RunState → Ending) (name : ScriptName) (s : RunState) → Holds s → (optional : Bool) → Ends (with_found_script delivery optional line enter name missing s)
  optional_holds delivery line enter name s h true = h
  optional_holds delivery line enter name s h false = h

  found_holds : (delivery : Delivery) (optional : Bool) (line : ℕ) (enter : Commands → RunState → Ending) (name : ScriptName) (lookup : Lookup) (s : RunState) → nat_lt include_limit (length s.entered) ≡ false → ((program : Commands) (t : RunState) → Holds t → Ends (enter program t)) → Holds s → Ends (with_found_script delivery optional line enter name lookup s)
  found_holds delivery optional line enter name missing s few runs h = optional_holds delivery line enter name s h optional
  found_holds delivery optional line enter name invalid s few runs h = h
  found_holds delivery optional line enter name (present program) s few runs h = resumed_holds s.values (enter program (entering name s)) (runs program (entering name s) (kept.enters name s few h))

  counted_holds : (find : ScriptName → Lookup) (delivery : Delivery) (enter : ScriptName → Commands → RunState → Ending) (name : ScriptName) (optional : Bool) (line : ℕ) (s : RunState) → ((program : Commands) (t : RunState) → Holds t → Ends (enter name program t)) → Holds s
      → (many : Bool) → nat_lt include_limit (length s.entered) ≡ many → Ends (if many then fails_at delivery line IncludeCount s else with_found_script delivery optional line (enter name) name (found_at find name) (looked_up name (found_at find name) s))
  counted_holds find delivery enter name optional line s runs h true is = h
  counted_holds find delivery enter name optional line s runs h false is =
      found_holds delivery optional line (enter name) name (found_at find name) (looked_up name (found_at find name) s) is runs (kept.lookups s (with_lookup name (is_there (found_at find name)) s.lookups) h)

  includes_holds : (find : ScriptName → Lookup) (delivery : Delivery) (enter : Option (ScriptName → Commands → RunState → Ending)) (name : ScriptName) (optional : Bool) (line : ℕ) (s : RunState)
      → ((one : ScriptName → Commands → RunState → Ending) → enter ≡ Some one → (program : Commands) (t : RunState) → Holds t → Ends (one name program t)) → Holds s → Ends (includes find delivery enter name optional line s)
  includes_holds find delivery None name optional line s runs h = h
  includes_holds find delivery (Some enter) name optional line s runs h =
      counted_holds find delivery enter name optional line s (runs enter refl) h (nat_lt include_limit (length s.entered)) refl

  by_checks : (skips runs_already : Bool) (fails others : Ending) (s : RunState) → Holds s → Ends fails → Ends others → Ends (if skips then goes_on s else if runs_already then fails else others)
  by_checks true runs_already fails others s h f o = h
  by_checks false true fails others s h f o = f
  by_checks false false fails others s h f o = o

  include_holds : (find : ScriptName → Lookup) (delivery : Delivery) (enter : Option (ScriptName → Commands → RunState → Ending)) (name : ScriptName) (once optional : Bool) (line : ℕ) (s : RunState)
      → ((one : ScriptName → Commands → RunState → Ending) → enter ≡ Some one → (program : Commands) (t : RunState) → Holds t → Ends (one name program t)) → Holds s → Ends (include_of find delivery enter name once optional line s)
  include_holds find delivery enter name once optional line s runs h =
      by_checks (once && is_script name s.entered) (is_running name delivery) _ (includes find delivery enter name optional line s) s h h (includes_holds find delivery enter name optional line s runs h)

  -- WALKS

  chosen_holds : (truth : Bool) (f g : RunState → Ending) (s : RunState) → Ends (f s) → Ends (g s) → Ends (chosen truth f g s)
  chosen_holds true f g s so otherwise = so
  chosen_holds false f g s so otherwise = otherwise

  after_holds : (e : Ending) (next : RunState → Ending) → Ends e → ((s : RunState) → Holds s → Ends (next s)) → Ends (and_then e next)
  after_holds (goes_on s) next h goes = goes s h
  after_holds (returned s) next h goes = h
  after_holds (stopped s) next h goes = h
  after_holds (failed error s) next h goes = h

  -- doing a walk keeps the fact if the commands that act keep it
  walk_holds : (act : Acts) → ((leaf : Leaf) (line : ℕ) (s : RunState) → Holds s → Ends (act leaf line s)) → (delivery : Delivery) (w : Walk) (s : RunState) → Holds s → Ends (doing act delivery w s)
  unfolding perform
  walk_holds act acts delivery at_end s h = h
  walk_holds act acts delivery by_stop s h = h
  walk_holds act acts delivery by_return s h = h
  walk_holds act acts delivery cut_off s h = h
  walk_holds act acts delivery (asked ask so otherwise) s h =
      let after = after_test delivery ask s in
      let holds : Holds after = kept.values s after.values h in
      chosen_holds (truth_of delivery s ask) (doing act delivery so) (doing act delivery otherwise) after (walk_holds act acts delivery so after holds) (walk_holds act acts delivery otherwise after holds)
  walk_holds act acts delivery (acted leaf line next) s h =
      after_holds (act leaf line s) (doing act delivery next) (acts leaf line s h) (λ t b. walk_holds act acts delivery next t b)

  module _ (find : ScriptName → Lookup) where
    acts_hold : (depth : ℕ) (delivery : Delivery) → ((name : ScriptName) (once optional : Bool) (line : ℕ) (s : RunState) → Holds s → Ends (included find depth delivery name once optional line s))
        → (leaf : Leaf) (line : ℕ) (s : RunState) → Holds s → Ends (act_of find depth delivery leaf line s)
    acts_hold depth delivery inner (keep_leaf flags) line s h = kept.acts delivery line (store_deed s delivery.arrival.envelope.mailbox (record plain_settings { flags = flags })) s h
    acts_hold depth delivery inner (fileinto_leaf mailbox settings) line s h = allowed delivery line BadMailbox (store_deed s (text_value s.values mailbox) settings) s h (is_mailbox (text_value s.values mailbox) && may_be_used (filing_of s.values settings).special_use)
    acts_hold depth delivery inner (redirect_leaf address copy) line s h = redirected delivery line (only_address (addresses_of (text_value s.values address))) copy s h
    acts_hold depth delivery inner discard_leaf line s h = kept.acts delivery line (deed_of Discard false) s h
    acts_hold depth delivery inner (set_leaf variable modifiers value) line s h = given delivery line variable (modified modifiers (text_value s.values value)) s h
    acts_hold depth delivery inner (flag_leaf how variable flags) line s h = changed delivery line how variable flags s h
    acts_hold depth delivery inner (include_leaf location once optional name) line s h = inner (record { location = location; name = name }) once optional line s h
    acts_hold depth delivery inner (vacation_leaf vacation) line s h =
        let response = response_of s.values vacation in
        allowed delivery line BadAddress (record { action = Respond response; leaves_keep = true }) s h (may_be_from response.from)
    acts_hold depth delivery inner (reject_leaf how reason) line s h = kept.acts delivery line (record { action = Reject how (text_value s.values reason); leaves_keep = false }) s h

    included_holds : (depth : ℕ) (delivery : Delivery) (name : ScriptName) (once optional : Bool) (line : ℕ) (s : RunState) → Holds s → Ends (included find depth delivery name once optional line s)
    unfolding included
    included_holds zero delivery name once optional line s h = include_holds find delivery None name once optional line s (λ one is. absurd cc) h
    included_holds (suc depth) delivery name once optional line s h =
        include_holds find delivery (Some (λ script program. exec (answer_of (inside script delivery)) (act_of find depth (inside script delivery)) program)) name once optional line s
        (λ one is program t held.
        let d = inside name delivery in
        subst (λ (f : ScriptName → Commands → RunState → Ending). Ends (f name program t)) (one_of _ _ is)
        (subst Ends (sym (does_walk (answer_of d) (act_of find depth d) program t)) (walk_holds (act_of find depth d) (acts_hold depth d (included_holds depth d)) d (script_walk program) t held)))
        h
      where
        one_of : (a b : ScriptName → Commands → RunState → Ending) → Some a ≡ Some b → a ≡ b
        one_of a b e = cc

    pub running_walk_holds : (depth : ℕ) (delivery : Delivery) (w : Walk) (s : RunState) → Holds s → Ends (doing (act_of find depth delivery) delivery w s)
    running_walk_holds depth delivery w s h = walk_holds (act_of find depth delivery) (acts_hold depth delivery (included_holds depth delivery)) delivery w s h

    pub running_holds : (depth : ℕ) (delivery : Delivery) (program : Commands) (s : RunState) → Holds s → Ends (running find depth delivery program s)
    running_holds depth delivery program s h =
        subst Ends (sym (does_walk (answer_of delivery) (act_of find depth delivery) program s)) (running_walk_holds depth delivery (script_walk program) s h)

-- VERDICTS

-- a fact that holds of no actions, and of the actions throughout a run, holds of those of a verdict
module _ (Holds : List Action → Type 0) (none : Holds []) (kept : IsKept (λ s. Holds (actions_in s.entries))) where
  ending_holds : (e : Ending) → Holds (actions_in (state_after e).entries) → Holds (actions_of (verdict_after e))
  ending_holds (goes_on s) h = h
  ending_holds (returned s) h = h
  ending_holds (stopped s) h = h
  ending_holds (failed error s) h = none

  found_holds_of : (find : ScriptName → Lookup) (arrival : Arrival) (main : ScriptName) (lookup : Lookup) → Holds (actions_of (verdict_at find arrival main lookup))
  found_holds_of find arrival main missing = none
  found_holds_of find arrival main invalid = none
  found_holds_of find arrival main (present program) =
      ending_holds (run_of find arrival main program) (running_holds (λ s. Holds (actions_in s.entries)) kept find include_depth (delivery_to arrival main) program (begun main) none)

  pub verdict_holds : (find : ScriptName → Lookup) (main : Option ScriptName) (arrival : Arrival) → Holds (actions_of (verdict_of find main arrival))
  unfolding verdict_of
  verdict_holds find None arrival = none
  verdict_holds find (Some main) arrival = found_holds_of find arrival main (found_at find main)

-- ACTIONS

joined_actions : (action : Action) (entries : List Entered) → actions_in (map (joined_entry action) entries) ≡ map (joined_with action) (actions_in entries)
joined_actions action [] = refl
joined_actions action (entry ∷ entries) = ap (λ l. joined_with action entry.action ∷ l) (joined_actions action entries)

entered_actions : (entries : List Entered) (entry : Entered) → actions_in (entries ++ entry ∷ []) ≡ actions_in entries ++ entry.action ∷ []
entered_actions entries entry = map-append (λ (e : Entered). e.action) entries (entry ∷ [])

-- a fact on the actions is kept if joining and entering an action keep it
pub of_actions : (Holds : List Action → Type 0)
    → ((action : Action) (actions : List Action) → Holds actions → Holds (map (joined_with action) actions))
    → ((action : Action) (actions : List Action) → conflict_among action actions ≡ None → list_any (same_action action) actions ≡ false → nat_lt (length actions) action_limit ≡ true → Holds actions → Holds (actions ++ action ∷ []))
    → IsKept (λ s. Holds (actions_in s.entries))
of_actions Holds joins enters = record {
  values = λ s values h. h;
  flags = λ s flags h. h;
  lookups = λ s lookups h. h;
  acts = λ delivery line deed s h. performed_holds (λ t. Holds (actions_in t.entries)) delivery line deed s h
      (λ none. subst Holds (sym (joined_actions deed.action s.entries)) (joins deed.action (actions_in s.entries) h))
      (λ none apart room. subst Holds (sym (entered_actions s.entries (entry_at delivery line deed.action)))
      (enters deed.action (actions_in s.entries) none apart (subst (λ n. nat_lt n action_limit ≡ true) (sym (length-map s.entries (λ (e : Entered). e.action))) room) h));
  enters = λ name s few h. h;
}

-- no more actions than a run may have
abbrev AreFew : List Action → Type 0
AreFew actions = length actions ≤ action_limit

one_has_room : (action : Action) (actions : List Action) → nat_lt (length actions) action_limit ≡ true → AreFew (actions ++ action ∷ [])
one_has_room action actions room = grind (arith, nat_tests, length_push actions action)

bounded : IsKept (λ s. AreFew (actions_in s.entries))
bounded = of_actions AreFew (λ action actions h. subst (λ n. n ≤ action_limit) (sym (length-map actions (joined_with action))) h) (λ action actions none apart room h. one_has_room action actions room)

-- as many entries as actions
few_entries : (entries : List Entered) → AreFew (actions_in entries) → length entries ≤ action_limit
few_entries entries few = subst (λ n. n ≤ action_limit) (length-map entries (λ (e : Entered). e.action)) few

ending_state : (f : endings.Ending) (s : RunState) → state_after (ending_by f s) ≡ s
ending_state ending.GoesOn s = refl
ending_state ending.Returned s = refl
ending_state ending.Stopped s = refl
ending_state (ending.Failed error) s = refl

-- If a run of a walk begins without actions, it ends with no more actions than a run may have.
pub run_bounded : (find : ScriptName → Lookup) (depth : ℕ) (delivery : Delivery) (w : Walk) (f : endings.Ending) (old new : RunState) → old.entries ≡ [] → doing (act_of find depth delivery) delivery w old ≡ ending_by f new → length new.entries ≤ action_limit
run_bounded find depth delivery w f old new none does =
    few_entries new.entries
    (subst (λ (s : RunState). AreFew (actions_in s.entries)) (ending_state f new)
    (subst (λ e. AreFew (actions_in (state_after e).entries)) does
    (running_walk_holds (λ s. AreFew (actions_in s.entries)) bounded find depth delivery w old (subst (λ entries. AreFew (actions_in entries)) (sym none) (omega arith)))))

pub verdict_bounded : (find : ScriptName → Lookup) (main : Option ScriptName) (arrival : Arrival) → length (verdict_of find main arrival).entries ≤ action_limit
verdict_bounded find main arrival = few_entries (verdict_of find main arrival).entries (verdict_holds AreFew (omega arith) bounded find main arrival)

-- THE COMMANDS THAT ENTERED ACTIONS

-- After a command performed an action, the entries are the old ones, or the old ones joined with
-- the action. Or they are the old ones and then the action with its command.
pub performed_entries : (delivery : Delivery) (line : ℕ) (deed : Deed) (s : RunState) → ComesOf delivery line deed s.entries (state_after (performs delivery line deed s)).entries
performed_entries delivery line deed s =
    performed_holds (λ t. ComesOf delivery line deed s.entries t.entries) delivery line deed s (inl refl) (λ none. inr (inl refl)) (λ none apart room. inr (inr refl))

-- INCLUDES

-- no more scripts were entered than the main one and 256 others
abbrev pub IsShort : RunState → Type 0
IsShort state = length state.entered ≤ suc include_limit

one_more : (name : ScriptName) (s : RunState) → nat_lt include_limit (length s.entered) ≡ false → length (s.entered ++ name ∷ []) ≤ suc include_limit
one_more name s few = grind (arith, nat_tests, length_push s.entered name)

performs_enters : (delivery : Delivery) (line : ℕ) (deed : Deed) (s : RunState) → (state_after (performs delivery line deed s)).entered ≡ s.entered
performs_enters delivery line deed s = performed_holds (λ t. t.entered ≡ s.entered) delivery line deed s refl (λ none. refl) (λ none apart room. refl)

short : IsKept IsShort
short = record {
  values = λ s values h. h;
  flags = λ s flags h. h;
  lookups = λ s lookups h. h;
  acts = λ delivery line deed s h. subst (λ entered. length entered ≤ suc include_limit) (sym (performs_enters delivery line deed s)) h;
  enters = λ name s few h. one_more name s few;
}

-- a run enters the main script and at most 256 others
pub run_short : (find : ScriptName → Lookup) (arrival : Arrival) (main : ScriptName) (program : Commands) → length (state_after (run_of find arrival main program)).entered ≤ suc include_limit
run_short find arrival main program = running_holds IsShort short find include_depth (delivery_to arrival main) program (begun main) (omega arith)

-- the scripts that were entered begin with these
abbrev Keeps : List ScriptName → RunState → Type 0
Keeps front state = (more : List ScriptName) × (state.entered ≡ front ++ more)

keeping : (front : List ScriptName) → IsKept (Keeps front)
keeping front = record {
  values = λ s values h. h;
  flags = λ s flags h. h;
  lookups = λ s lookups h. h;
  acts = λ delivery line deed s h. (h.0, performs_enters delivery line deed s ∙ h.1);
  enters = λ name s few h. (h.0 ++ name ∷ [], ap (λ (entered : List ScriptName). entered ++ name ∷ []) h.1 ∙ append_assoc front h.0 (name ∷ []));
}

-- the scripts that were entered before a script ran are still the first ones after it
pub run_keeps : (find : ScriptName → Lookup) (depth : ℕ) (delivery : Delivery) (program : Commands) (state : RunState) → Keeps state.entered (state_after (running find depth delivery program state))
run_keeps find depth delivery program state = running_holds (Keeps state.entered) (keeping state.entered) find depth delivery program state ([], sym (append-nil state.entered))
