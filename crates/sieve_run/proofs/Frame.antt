-- A verdict depends on no more of a library than the texts at the names that it looked up.
use Rattle.std.proofs.Common.{◌≡◌, ℕ, zero, suc, Bool, true, false, ◌&&◌, ◌||◌, Option, None, Some, List, [], ◌∷◌, ◌++◌, length, nat_lt, nat_eq, refl, subst, sym, ap, ◌∙◌, arith}
use Rattle.std.proofs.lemmas.Bool.Decides.{nat_tests}
use Rattle.std.specs.Prelude.{if◌then◌else◌}
use lib.Pointwise.{pointwise}
use Rattle.message_text.specs.Addresses.{addresses_of}
use Rattle.flag_lists.specs.Flags.{flag_list}
use Rattle.sieve_limits.specs.Limits.{include_depth, include_limit, name_limit}
use Rattle.script_names.specs.declared.location.Location.{Location}
use Rattle.script_names.specs.declared.location.Location.TheVariants.{Personal, Global}
use Rattle.sieve_script.specs.Reading.{plain_settings, Leaf, keep_leaf, fileinto_leaf, redirect_leaf, discard_leaf, set_leaf, flag_leaf, include_leaf, vacation_leaf, reject_leaf}
use Rattle.sieve_script.specs.declared.reading.FlagChange.{FlagChange}
use Rattle.sieve_script.specs.Script.{Condition, Commands, no_commands, stops, returns, acts, chooses, Branches, no_branches, else_branch, test_branch}
use Rattle.sieve_delivery.specs.Delivery.{Arrival, Delivery, inside}
use Rattle.sieve_run.specs.Frame.{Agree, LibraryTexts, verdict_over}
use Rattle.sieve_run.specs.Library.{Lookup, found_at, invalid, library_of, lookup_of, missing, present}
use Rattle.script_names.specs.Name.{name_eq, location_eq}
use Rattle.sieve_delivery.specs.Act.{changes, changed_flags, held_flags, act_by}
use Rattle.sieve_delivery.specs.Ending.{Ending, goes_on, returned, stopped, failed, state_after}
use Rattle.sieve_delivery.specs.Performing.{deed_of, performs, fails_at}
use Rattle.sieve_delivery.specs.Sending.{may_be_from, only_address, redirects, response_of}
use Rattle.sieve_delivery.specs.Storing.{store_deed, flags_named, filing_of, is_mailbox, may_be_used}
use Rattle.sieve_run.specs.Run.{entering, included, include_of, includes, is_looked_up, is_running, is_script, is_there, looked_up, act_of, and_then, answer_of, begun, chosen, decide, delivery_to, exec, exec_branches, resumed, run_of, running, verdict_at, verdict_after, verdict_of, with_found_script, with_lookup}
use Rattle.sieve_delivery.specs.State.{RunState}
use Rattle.script_names.specs.declared.name.ScriptName.{ScriptName}
use Rattle.sieve_delivery.specs.declared.action.Deed.{Deed}
use Rattle.sieve_delivery.specs.declared.action.Action.TheVariants.{Redirect, Discard, Respond, Reject}
use Rattle.sieve_delivery.specs.declared.error.ErrorKind.{ErrorKind}
use Rattle.sieve_delivery.specs.declared.error.ErrorKind.TheVariants.{BadAddress, BadMailbox, IncludeCount, TooManyGlobals}
use Rattle.sieve_run.specs.view.Step.{Acts}
use Rattle.sieve_variables.specs.Modifier.{modified}
use Rattle.sieve_variables.specs.Part.{Part}
use Rattle.sieve_variables.specs.Value.{Values, has_room_for, text_value, variable_value, with_variable}
use Rattle.sieve_variables.specs.Variable.{Variable}
use Rattle.sieve_run.proofs.Bounds.{performed_holds}
use Rattle.sieve_run.proofs.Unchanged.{decide_keeps}

-- NAMES THAT ARE READ

same_octets : (octets : List ℕ) → pointwise nat_eq octets octets ≡ true
same_octets [] = refl
same_octets (c ∷ cs) = both (nat_eq c c) (pointwise nat_eq cs cs) (same_octet c) (same_octets cs)
  where
    same_octet : (n : ℕ) → nat_eq n n ≡ true
    same_octet n = grind (arith, nat_tests)

    both : (a b : Bool) → a ≡ true → b ≡ true → (a && b) ≡ true
    both true b is_a is_b = is_b
    both false b is_a is_b = is_a

same_location : (place : Location) → location_eq place place ≡ true
same_location Personal = refl
same_location Global = refl

same_name : (name : ScriptName) → name_eq name name ≡ true
same_name name = both (location_eq name.location name.location) (pointwise nat_eq name.name name.name) (same_location name.location) (same_octets name.name)
  where
    both : (a b : Bool) → a ≡ true → b ≡ true → (a && b) ≡ true
    both true b is_a is_b = is_b
    both false b is_a is_b = is_a

or_first : (a b : Bool) → a ≡ true → (a || b) ≡ true
or_first true b is = refl
or_first false b is = absurd cc

or_second : (a b : Bool) → b ≡ true → (a || b) ≡ true
or_second true b is = refl
or_second false b is = is

or_front : (a b c : Bool) → (b ≡ true → c ≡ true) → (a || b) ≡ true → (a || c) ≡ true
or_front true b c more is = refl
or_front false b c more is = more is

lookup_before : (name : ScriptName) (lookups more : List (ScriptName × Bool)) → is_looked_up name lookups ≡ true → is_looked_up name (lookups ++ more) ≡ true
lookup_before name [] more is = absurd cc
lookup_before name (read ∷ lookups) more is = or_front (name_eq name read.0) (is_looked_up name lookups) (is_looked_up name (lookups ++ more)) (lookup_before name lookups more) is

lookup_last : (name : ScriptName) (there : Bool) (lookups : List (ScriptName × Bool)) → is_looked_up name (lookups ++ (name, there) ∷ []) ≡ true
lookup_last name there [] = or_first (name_eq name name) false (same_name name)
lookup_last name there (read ∷ lookups) = or_second (name_eq name read.0) (is_looked_up name (lookups ++ (name, there) ∷ [])) (lookup_last name there lookups)

lookup_there : (name : ScriptName) (there : Bool) (lookups : List (ScriptName × Bool)) → is_looked_up name (with_lookup name there lookups) ≡ true
lookup_there name there lookups = by (is_looked_up name lookups) refl
  where
    by : (b : Bool) → is_looked_up name lookups ≡ b → is_looked_up name (if b then lookups else lookups ++ (name, there) ∷ []) ≡ true
    by true is = is
    by false is = lookup_last name there lookups

lookup_still : (other name : ScriptName) (there : Bool) (lookups : List (ScriptName × Bool)) → is_looked_up other lookups ≡ true → is_looked_up other (with_lookup name there lookups) ≡ true
lookup_still other name there lookups is = by (is_looked_up name lookups)
  where
    by : (b : Bool) → is_looked_up other (if b then lookups else lookups ++ (name, there) ∷ []) ≡ true
    by true = is
    by false = lookup_before other lookups ((name, there) ∷ []) is

-- each name that is read in one state is read in the other
abbrev Grows : RunState → RunState → Type 0
Grows s t = (name : ScriptName) → is_looked_up name s.lookups ≡ true → is_looked_up name t.lookups ≡ true

lookups_stay : (s t : RunState) → t.lookups ≡ s.lookups → Grows s t
lookups_stay s t same name r = subst (λ lookups. is_looked_up name lookups ≡ true) (sym same) r

-- COMMANDS THAT INCLUDE NOTHING

performs_lookups : (delivery : Delivery) (line : ℕ) (deed : Deed) (s : RunState) → (state_after (performs delivery line deed s)).lookups ≡ s.lookups
performs_lookups delivery line deed s = performed_holds (λ t. t.lookups ≡ s.lookups) delivery line deed s refl (λ none. refl) (λ none apart room. refl)

allowed_lookups : (delivery : Delivery) (line : ℕ) (kind : ErrorKind) (deed : Deed) (s : RunState) (may : Bool) → (state_after (if may then performs delivery line deed s else fails_at delivery line kind s)).lookups ≡ s.lookups
allowed_lookups delivery line kind deed s true = performs_lookups delivery line deed s
allowed_lookups delivery line kind deed s false = refl

redirected_lookups : (delivery : Delivery) (line : ℕ) (address : Option (List ℕ)) (copy : Bool) (s : RunState) → (state_after (redirects delivery line address copy s)).lookups ≡ s.lookups
redirected_lookups delivery line None copy s = refl
redirected_lookups delivery line (Some address) copy s = performs_lookups delivery line (deed_of (Redirect address) copy) s

given_lookups : (delivery : Delivery) (line : ℕ) (variable : Variable) (value : List ℕ) (s : RunState) (room : Bool) → (state_after (if room then goes_on (record s { values = with_variable variable value s.values }) else fails_at delivery line TooManyGlobals s)).lookups ≡ s.lookups
given_lookups delivery line variable value s true = refl
given_lookups delivery line variable value s false = refl

changed_lookups : (delivery : Delivery) (line : ℕ) (how : FlagChange) (variable : Option Variable) (texts : List (List Part)) (s : RunState) → (state_after (changes delivery line how variable texts s)).lookups ≡ s.lookups
changed_lookups delivery line how None texts s = refl
changed_lookups delivery line how (Some variable) texts s =
    given_lookups delivery line variable (held_flags (changed_flags how (flag_list (variable_value s.values variable)) (flags_named s texts))) s (has_room_for variable s.values)

resumed_lookups : (before : Values) (e : Ending) → (state_after (resumed before e)).lookups ≡ (state_after e).lookups
resumed_lookups before (goes_on s) = refl
resumed_lookups before (returned s) = refl
resumed_lookups before (stopped s) = refl
resumed_lookups before (failed error s) = refl

-- OVER TWO LIBRARIES

module _ (find other : ScriptName → Lookup) where
  -- two libraries find the same at each name that was read
  abbrev AgreeOn : List (ScriptName × Bool) → Type 0
  AgreeOn lookups = (name : ScriptName) → is_looked_up name lookups ≡ true → find name ≡ other name

  -- `f` over the first library keeps the names that were read. `g` over the other library does the
  -- same as `f` if the libraries agree. They have to agree on the names that `f` has read.
  record Frames (f g : RunState → Ending) : Type 0 where
    grows : (s : RunState) → Grows s (state_after (f s))
    same : (s : RunState) → AgreeOn (state_after (f s)).lookups → g s ≡ f s

  -- a command that reads no name does the same over both libraries
  own_frames : (f : RunState → Ending) → ((s : RunState) → (state_after (f s)).lookups ≡ s.lookups) → Frames f f
  own_frames f stay = record { grows = λ s. lookups_stay s (state_after (f s)) (stay s); same = λ s agree. refl }

  -- COMMANDS IN TURN

  then_grows : (e : Ending) (h k : RunState → Ending) → Frames h k → Grows (state_after e) (state_after (and_then e h))
  then_grows (goes_on t) h k second = second.grows t
  then_grows (returned t) h k second = λ name r. r
  then_grows (stopped t) h k second = λ name r. r
  then_grows (failed error t) h k second = λ name r. r

  then_same : (e e' : Ending) (h k : RunState → Ending) → Frames h k → (AgreeOn (state_after e).lookups → e' ≡ e) → AgreeOn (state_after (and_then e h)).lookups → and_then e' k ≡ and_then e h
  then_same (goes_on t) e' h k second is agree = ap (λ x. and_then x k) (is (λ name r. agree name (second.grows t name r))) ∙ second.same t agree
  then_same (returned t) e' h k second is agree = ap (λ x. and_then x k) (is agree)
  then_same (stopped t) e' h k second is agree = ap (λ x. and_then x k) (is agree)
  then_same (failed error t) e' h k second is agree = ap (λ x. and_then x k) (is agree)

  then_frames : (f g h k : RunState → Ending) → Frames f g → Frames h k → Frames (λ s. and_then (f s) h) (λ s. and_then (g s) k)
  then_frames f g h k first second = record {
    grows = λ s name r. then_grows (f s) h k second name (first.grows s name r);
    same = λ s agree. then_same (f s) (g s) h k second (first.same s) agree;
  }

  chosen_grows : (truth : Bool) (f g h k : RunState → Ending) → Frames f g → Frames h k → (s : RunState) → Grows s (state_after (chosen truth f h s))
  chosen_grows true f g h k first second s = first.grows s
  chosen_grows false f g h k first second s = second.grows s

  chosen_same : (truth : Bool) (f g h k : RunState → Ending) → Frames f g → Frames h k → (s : RunState) → AgreeOn (state_after (chosen truth f h s)).lookups → chosen truth g k s ≡ chosen truth f h s
  chosen_same true f g h k first second s agree = first.same s agree
  chosen_same false f g h k first second s agree = second.same s agree

  module _ (delivery : Delivery) where
    decide_lookups : (c : Condition) (s : RunState) → (decide (answer_of delivery) c s).state.lookups ≡ s.lookups
    decide_lookups c s = ap (λ t. t.lookups) (decide_keeps delivery c s).1

    choice_frames : (c : Condition) (f g h k : RunState → Ending) → Frames f g → Frames h k
        → Frames (λ s. chosen (decide (answer_of delivery) c s).truth f h (decide (answer_of delivery) c s).state) (λ s. chosen (decide (answer_of delivery) c s).truth g k (decide (answer_of delivery) c s).state)
    choice_frames c f g h k first second = record {
      grows = λ s name r.
          chosen_grows (decide (answer_of delivery) c s).truth f g h k first second (decide (answer_of delivery) c s).state name (lookups_stay s (decide (answer_of delivery) c s).state (decide_lookups c s) name r);
      same = λ s agree. chosen_same (decide (answer_of delivery) c s).truth f g h k first second (decide (answer_of delivery) c s).state agree;
    }

    mutual
      unfolding exec exec_branches

      exec_frames : (act act' : Acts) → ((leaf : Leaf) (line : ℕ) → Frames (act leaf line) (act' leaf line)) → (c : Commands) → Frames (exec (answer_of delivery) act c) (exec (answer_of delivery) act' c)
      exec_frames act act' frames no_commands = record { grows = λ s name r. r; same = λ s agree. refl }
      exec_frames act act' frames (stops rest) = record { grows = λ s name r. r; same = λ s agree. refl }
      exec_frames act act' frames (returns rest) = record { grows = λ s name r. r; same = λ s agree. refl }
      exec_frames act act' frames (acts leaf line rest) =
          let all = then_frames (act leaf line) (act' leaf line) (exec (answer_of delivery) act rest) (exec (answer_of delivery) act' rest) (frames leaf line) (exec_frames act act' frames rest) in
          record { grows = all.grows; same = all.same }
      exec_frames act act' frames (chooses branches rest) =
          let all = then_frames (exec_branches (answer_of delivery) act branches) (exec_branches (answer_of delivery) act' branches) (exec (answer_of delivery) act rest) (exec (answer_of delivery) act' rest) (branches_frame act act' frames branches) (exec_frames act act' frames rest) in
          record { grows = all.grows; same = all.same }

      branches_frame : (act act' : Acts) → ((leaf : Leaf) (line : ℕ) → Frames (act leaf line) (act' leaf line)) → (bs : Branches) → Frames (exec_branches (answer_of delivery) act bs) (exec_branches (answer_of delivery) act' bs)
      branches_frame act act' frames no_branches = record { grows = λ s name r. r; same = λ s agree. refl }
      branches_frame act act' frames (else_branch inner) =
          let all = exec_frames act act' frames inner in record { grows = all.grows; same = all.same }
      branches_frame act act' frames (test_branch condition inner others) =
          let choice = choice_frames condition (exec (answer_of delivery) act inner) (exec (answer_of delivery) act' inner) (exec_branches (answer_of delivery) act others) (exec_branches (answer_of delivery) act' others) (exec_frames act act' frames inner) (branches_frame act act' frames others) in
          record { grows = choice.grows; same = choice.same }

  -- INCLUDES

  abbrev Enter : Type 0
  Enter = Commands → RunState → Ending

  module _ (delivery : Delivery) (optional : Bool) (line : ℕ) (enter enter' : Enter) (name : ScriptName) where
    optional_grows : (b : Bool) (t : RunState) → Grows t (state_after (with_found_script delivery b line enter name missing t))
    optional_grows true t = λ n r. r
    optional_grows false t = λ n r. r

    found_grows : ((program : Commands) → Frames (enter program) (enter' program)) → (lookup : Lookup) (t : RunState) → Grows t (state_after (with_found_script delivery optional line enter name lookup t))
    found_grows frames missing t = optional_grows optional t
    found_grows frames invalid t = λ n r. r
    found_grows frames (present program) t = λ n r.
        lookups_stay (state_after (enter program (entering name t))) (state_after (resumed t.values (enter program (entering name t)))) (resumed_lookups t.values (enter program (entering name t))) n ((frames program).grows (entering name t) n r)

    found_same : ((program : Commands) → Frames (enter program) (enter' program)) → (lookup : Lookup) (t : RunState) → AgreeOn (state_after (with_found_script delivery optional line enter name lookup t)).lookups → with_found_script delivery optional line enter' name lookup t ≡ with_found_script delivery optional line enter name lookup t
    found_same frames missing t agree = refl
    found_same frames invalid t agree = refl
    found_same frames (present program) t agree =
        ap (resumed t.values) ((frames program).same (entering name t) (λ n r. agree n (lookups_stay (state_after (enter program (entering name t))) (state_after (resumed t.values (enter program (entering name t)))) (resumed_lookups t.values (enter program (entering name t))) n r)))

    -- if the libraries agree on a name, they find the same script at it
    same_found : find name ≡ other name → found_at find name ≡ found_at other name
    same_found is = ap (λ lookup. if nat_lt name_limit (length name.name) then missing else lookup) is

    abbrev does : Enter → Lookup → RunState → Ending
    does one lookup s = with_found_script delivery optional line one name lookup (looked_up name lookup s)

    lookup_grows : ((program : Commands) → Frames (enter program) (enter' program)) → (s : RunState) (n : ScriptName) → is_looked_up n (looked_up name (found_at find name) s).lookups ≡ true → is_looked_up n (state_after (does enter (found_at find name) s)).lookups ≡ true
    lookup_grows frames s n r = found_grows frames (found_at find name) (looked_up name (found_at find name) s) n r

    lookup_frames : ((program : Commands) → Frames (enter program) (enter' program)) → Frames (does enter (found_at find name)) (does enter' (found_at other name))
    lookup_frames frames = record {
      grows = λ s n r. lookup_grows frames s n (lookup_still n name (is_there (found_at find name)) s.lookups r);
      same = λ s agree.
          ap (λ lookup. does enter' lookup s) (sym (same_found (agree name (lookup_grows frames s name (lookup_there name (is_there (found_at find name)) s.lookups)))))
          ∙ found_same frames (found_at find name) (looked_up name (found_at find name) s) agree;
    }

  -- If two commands each do the same over both libraries, a choice between them does too. The
  -- choice is by a test on the state.
  if_frames : (test : RunState → Bool) (f g h k : RunState → Ending) → Frames f g → Frames h k → Frames (λ s. if test s then f s else h s) (λ s. if test s then g s else k s)
  if_frames test f g h k first second = record {
    grows = λ s. by_grows (test s) s;
    same = λ s. by_same (test s) s;
  }
    where
      by_grows : (b : Bool) (s : RunState) → Grows s (state_after (if b then f s else h s))
      by_grows true s = first.grows s
      by_grows false s = second.grows s

      by_same : (b : Bool) (s : RunState) → AgreeOn (state_after (if b then f s else h s)).lookups → (if b then g s else k s) ≡ (if b then f s else h s)
      by_same true s agree = first.same s agree
      by_same false s agree = second.same s agree

  abbrev EnterFrames : Option (ScriptName → Enter) → Option (ScriptName → Enter) → Type 0
  EnterFrames None None = Unit {0}
  EnterFrames None (Some b) = ⊥
  EnterFrames (Some a) None = ⊥
  EnterFrames (Some a) (Some b) = (name : ScriptName) (program : Commands) → Frames (a name program) (b name program)

  includes_frames : (delivery : Delivery) (enter enter' : Option (ScriptName → Enter)) → EnterFrames enter enter' → (name : ScriptName) (optional : Bool) (line : ℕ) → Frames (includes find delivery enter name optional line) (includes other delivery enter' name optional line)
  includes_frames delivery None None frames name optional line = record { grows = λ s n r. r; same = λ s agree. refl }
  includes_frames delivery None (Some b) frames name optional line = absurd frames
  includes_frames delivery (Some a) None frames name optional line = absurd frames
  includes_frames delivery (Some a) (Some b) frames name optional line =
      let all = if_frames (λ s. nat_lt include_limit (length s.entered)) (fails_at delivery line IncludeCount) (fails_at delivery line IncludeCount) _ _ (own_frames (fails_at delivery line IncludeCount) (λ s. refl)) (lookup_frames delivery optional line (a name) (b name) name (frames name)) in
      record { grows = all.grows; same = all.same }

  include_frames : (delivery : Delivery) (enter enter' : Option (ScriptName → Enter)) → EnterFrames enter enter' → (name : ScriptName) (once optional : Bool) (line : ℕ) → Frames (include_of find delivery enter name once optional line) (include_of other delivery enter' name once optional line)
  include_frames delivery enter enter' frames name once optional line =
      let inner = if_frames (λ s. is_running name delivery) _ _ (includes find delivery enter name optional line) (includes other delivery enter' name optional line) (own_frames _ (λ s. refl)) (includes_frames delivery enter enter' frames name optional line) in
      let all = if_frames (λ s. once && is_script name s.entered) goes_on goes_on _ _ (own_frames goes_on (λ s. refl)) inner in
      record { grows = all.grows; same = all.same }

  -- SCRIPTS

  acts_frames : (delivery : Delivery) (include include' : ScriptName → (once optional : Bool) → ℕ → RunState → Ending) → ((name : ScriptName) (once optional : Bool) (line : ℕ) → Frames (include name once optional line) (include' name once optional line))
      → (leaf : Leaf) (line : ℕ) → Frames (act_by include delivery leaf line) (act_by include' delivery leaf line)
  acts_frames delivery include include' frames (keep_leaf flags) line = own_frames _ (λ s. performs_lookups delivery line (store_deed s delivery.arrival.envelope.mailbox (record plain_settings { flags = flags })) s)
  acts_frames delivery include include' frames (fileinto_leaf mailbox settings) line = own_frames _ (λ s. allowed_lookups delivery line BadMailbox (store_deed s (text_value s.values mailbox) settings) s (is_mailbox (text_value s.values mailbox) && may_be_used (filing_of s.values settings).special_use))
  acts_frames delivery include include' frames (redirect_leaf address copy) line = own_frames _ (λ s. redirected_lookups delivery line (only_address (addresses_of (text_value s.values address))) copy s)
  acts_frames delivery include include' frames discard_leaf line = own_frames _ (λ s. performs_lookups delivery line (deed_of Discard false) s)
  acts_frames delivery include include' frames (set_leaf variable modifiers value) line = own_frames _ (λ s. given_lookups delivery line variable (modified modifiers (text_value s.values value)) s (has_room_for variable s.values))
  acts_frames delivery include include' frames (flag_leaf how variable flags) line = own_frames _ (λ s. changed_lookups delivery line how variable flags s)
  acts_frames delivery include include' frames (include_leaf location once optional name) line =
      let all = frames (record { location = location; name = name }) once optional line in record { grows = all.grows; same = all.same }
  acts_frames delivery include include' frames (vacation_leaf vacation) line =
      own_frames _ (λ s. allowed_lookups delivery line BadAddress (record { action = Respond (response_of s.values vacation); leaves_keep = true }) s (may_be_from (response_of s.values vacation).from))
  acts_frames delivery include include' frames (reject_leaf how reason) line =
      own_frames _ (λ s. performs_lookups delivery line (record { action = Reject how (text_value s.values reason); leaves_keep = false }) s)

  included_frames : (depth : ℕ) (delivery : Delivery) (name : ScriptName) (once optional : Bool) (line : ℕ) → Frames (included find depth delivery name once optional line) (included other depth delivery name once optional line)
  unfolding included
  included_frames zero delivery name once optional line =
      let all = include_frames delivery None None tt name once optional line in record { grows = all.grows; same = all.same }
  included_frames (suc depth) delivery name once optional line =
      let all = include_frames delivery
      (Some (λ script program. exec (answer_of (inside script delivery)) (act_of find depth (inside script delivery)) program))
      (Some (λ script program. exec (answer_of (inside script delivery)) (act_of other depth (inside script delivery)) program))
      (λ script program. exec_frames (inside script delivery) (act_of find depth (inside script delivery)) (act_of other depth (inside script delivery)) (acts_frames (inside script delivery) (included find depth (inside script delivery)) (included other depth (inside script delivery)) (included_frames depth (inside script delivery))) program)
      name once optional line in
      record { grows = all.grows; same = all.same }

  running_frames : (depth : ℕ) (delivery : Delivery) (program : Commands) → Frames (running find depth delivery program) (running other depth delivery program)
  running_frames depth delivery program = exec_frames delivery (act_of find depth delivery) (act_of other depth delivery) (acts_frames delivery (included find depth delivery) (included other depth delivery) (included_frames depth delivery)) program

  -- VERDICTS

  verdict_lookups : (e : Ending) → (verdict_after e).lookups ≡ (state_after e).lookups
  verdict_lookups (goes_on s) = refl
  verdict_lookups (returned s) = refl
  verdict_lookups (stopped s) = refl
  verdict_lookups (failed error s) = refl

  main_lookup : (arrival : Arrival) (main : ScriptName) (lookup : Lookup) → is_looked_up main (verdict_at find arrival main lookup).lookups ≡ true
  main_lookup arrival main missing = or_first (name_eq main main) false (same_name main)
  main_lookup arrival main invalid = or_first (name_eq main main) false (same_name main)
  main_lookup arrival main (present program) =
      subst (λ lookups. is_looked_up main lookups ≡ true) (sym (verdict_lookups (run_of find arrival main program)))
      ((running_frames include_depth (delivery_to arrival main) program).grows (begun main) main (or_first (name_eq main main) false (same_name main)))

  lookup_same : (arrival : Arrival) (main : ScriptName) (lookup : Lookup) → AgreeOn (verdict_at find arrival main lookup).lookups → verdict_at other arrival main lookup ≡ verdict_at find arrival main lookup
  lookup_same arrival main missing agree = refl
  lookup_same arrival main invalid agree = refl
  lookup_same arrival main (present program) agree =
      ap verdict_after ((running_frames include_depth (delivery_to arrival main) program).same (begun main)
      (λ name r. agree name (subst (λ lookups. is_looked_up name lookups ≡ true) (sym (verdict_lookups (run_of find arrival main program))) r)))

  verdict_same : (main : Option ScriptName) (arrival : Arrival) → AgreeOn (verdict_of find main arrival).lookups → verdict_of other main arrival ≡ verdict_of find main arrival
  unfolding verdict_of
  verdict_same None arrival agree = refl
  verdict_same (Some main) arrival agree =
      ap (λ lookup. verdict_at other arrival main (if nat_lt name_limit (length main.name) then missing else lookup)) (sym (agree main (main_lookup arrival main (found_at find main))))
      ∙ lookup_same arrival main (found_at find main) agree

-- the verdict over a library is that over another, if both have the same at each looked-up name
pub frame : (texts others : LibraryTexts) (main : Option ScriptName) (arrival : Arrival) → Agree texts others (verdict_over texts main arrival).lookups → verdict_over others main arrival ≡ verdict_over texts main arrival
frame texts others main arrival agree =
    verdict_same (library_of arrival.profile texts) (library_of arrival.profile others) main arrival (λ name r. ap (lookup_of arrival.profile) (agree name r))
