-- The ending of an include, by its checks in turn.
use Rattle.std.proofs.Common.{◌≡◌, ℕ, zero, suc, Bool, true, false, ◌&&◌, Option, None, Some, List, ◌-◌, nat_lt, length, refl, sym, ap, ◌∙◌, arith}
use Rattle.std.specs.Prelude.{if◌then◌else◌}
use Rattle.sieve_limits.specs.Limits.{include_limit}
use Rattle.sieve_script.specs.Script.{Commands}
use Rattle.sieve_code.specs.Operation.{Operation}
use Rattle.sieve_code.specs.Walk.{code_walk}
use Rattle.sieve_delivery.specs.Delivery.{Delivery, inside}
use Rattle.sieve_run.specs.Library.{Lookup, missing, invalid, present, HasCode, found_at}
use Rattle.sieve_delivery.specs.Ending.{Ending, goes_on}
use Rattle.sieve_delivery.specs.Performing.{fails_at}
use Rattle.sieve_run.specs.Run.{act_of, answer_of, entering, exec, include_of, included, includes, is_running, is_script, is_there, looked_up, resumed, resuming, with_lookup}
use Rattle.sieve_delivery.specs.State.{RunState}
use Rattle.sieve_delivery.specs.declared.ending.Ending as endings
use Rattle.sieve_delivery.specs.declared.ending.Ending.TheVariants.{GoesOn, Returned, Stopped, Failed}
use Rattle.script_names.specs.declared.name.ScriptName.{ScriptName}
use Rattle.sieve_delivery.specs.declared.error.ErrorKind.TheVariants.{IncludeCount, IncludeDepth, RecursiveInclude}
use Rattle.sieve_delivery.specs.view.Ending.{ending_by}
use Rattle.sieve_run.specs.view.Include.{enters, looks_up, resumed_by}
use Rattle.sieve_run.specs.view.Step.{doing}
use Rattle.sieve_variables.specs.Value.{Values}
use Rattle.sieve_run.proofs.Performing.{by_found_code}

abbrev Enter : Type 0
Enter = Option (ScriptName → Commands → RunState → Ending)

module _ (find : ScriptName → Lookup) (delivery : Delivery) (name : ScriptName) (once optional : Bool) (line : ℕ) (s : RunState) where
  -- If an include ends so however scripts are run, it does at each depth.
  at_depth : (depth : ℕ) (e : Ending) → ((enter : Enter) → e ≡ include_of find delivery enter name once optional line s) → e ≡ included find depth delivery name once optional line s
  unfolding included
  at_depth zero e does = does None
  at_depth (suc depth) e does = does (Some (λ script program. exec (answer_of (inside script delivery)) (act_of find depth (inside script delivery)) program))

  at_once : (enter : Enter) (skips : Bool) → (once && is_script name s.entered) ≡ skips
      → (if skips then goes_on s else if is_running name delivery then fails_at delivery line RecursiveInclude s else includes find delivery enter name optional line s) ≡ include_of find delivery enter name once optional line s
  at_once enter skips is = sym (ap (λ b. if b then goes_on s else if is_running name delivery then fails_at delivery line RecursiveInclude s else includes find delivery enter name optional line s) is)

  at_running : (enter : Enter) (runs : Bool) → (once && is_script name s.entered) ≡ false → is_running name delivery ≡ runs
      → (if runs then fails_at delivery line RecursiveInclude s else includes find delivery enter name optional line s) ≡ include_of find delivery enter name once optional line s
  at_running enter runs first is = sym (ap (λ b. if b then fails_at delivery line RecursiveInclude s else includes find delivery enter name optional line s) is) ∙ at_once enter false first

  -- under `:once` a script that was entered is skipped
  pub skips_included : (depth : ℕ) → once ≡ true → is_script name s.entered ≡ true → goes_on s ≡ included find depth delivery name once optional line s
  skips_included depth under is = at_depth depth (goes_on s) (λ enter. at_once enter true (both once (is_script name s.entered) under is))
    where
      both : (a b : Bool) → a ≡ true → b ≡ true → (a && b) ≡ true
      both true b is_a is_b = is_b
      both false b is_a is_b = is_a

  -- an include of a script that runs is an error
  pub fails_running : (depth : ℕ) → (once && is_script name s.entered) ≡ false → is_running name delivery ≡ true → fails_at delivery line RecursiveInclude s ≡ included find depth delivery name once optional line s
  fails_running depth first is = at_depth depth (fails_at delivery line RecursiveInclude s) (λ enter. at_running enter true first is)

  -- an include that is too deep is an error
  pub fails_deep : (depth : ℕ) → (once && is_script name s.entered) ≡ false → is_running name delivery ≡ false → depth ≡ 0 → fails_at delivery line IncludeDepth s ≡ included find depth delivery name once optional line s
  unfolding included
  fails_deep zero first second none = at_running None false first second
  fails_deep (suc depth) first second none = absurd cc

  -- one include too many is an error
  pub fails_many : (depth : ℕ) → (once && is_script name s.entered) ≡ false → is_running name delivery ≡ false → (depth ≡ 0 → ⊥) → nat_lt include_limit (length s.entered) ≡ true → fails_at delivery line IncludeCount s ≡ included find depth delivery name once optional line s
  unfolding included
  fails_many zero first second deep many = absurd (deep refl)
  fails_many (suc depth) first second deep many =
      sym (ap (λ b. if b then fails_at delivery line IncludeCount s else looks_up find depth delivery name optional line s) many)
      ∙ at_running (Some (λ script program. exec (answer_of (inside script delivery)) (act_of find depth (inside script delivery)) program)) false first second

  -- the script of any other include is looked up
  pub looks_included : (depth : ℕ) → (once && is_script name s.entered) ≡ false → is_running name delivery ≡ false → (depth ≡ 0 → ⊥) → nat_lt include_limit (length s.entered) ≡ false → looks_up find (depth - 1) delivery name optional line s ≡ included find depth delivery name once optional line s
  unfolding included
  looks_included zero first second deep few = absurd (deep refl)
  looks_included (suc depth) first second deep few =
      ap (λ n. looks_up find n delivery name optional line s) (omega arith)
      ∙ sym (ap (λ b. if b then fails_at delivery line IncludeCount s else looks_up find depth delivery name optional line s) few)
      ∙ at_running (Some (λ script program. exec (answer_of (inside script delivery)) (act_of find depth (inside script delivery)) program)) false first second

-- an include isn't skipped without `:once`, nor if its script wasn't entered
pub not_once : (once : Bool) (name : ScriptName) (entered : List ScriptName) → once ≡ false → (once && is_script name entered) ≡ false
not_once once name entered is = ap (λ b. b && is_script name entered) is

pub not_entered : (once found : Bool) (name : ScriptName) (entered names : List ScriptName) → names ≡ entered → found ≡ is_script name names → found ≡ false → (once && is_script name entered) ≡ false
not_entered once found name entered names are says is = by once (sym (says ∙ ap (is_script name) are) ∙ is)
  where
    by : (once : Bool) → is_script name entered ≡ false → (once && is_script name entered) ≡ false
    by true is = is
    by false is = refl

-- FOUND SCRIPTS

has_text : (lookup : Lookup) (ops : List Operation) → HasCode lookup ops → is_there lookup ≡ true
has_text missing ops has = absurd has
has_text invalid ops has = absurd has
has_text (present program) ops has = refl

-- a script that is found is added to the names looked up, and runs
pub looks_present : (find : ScriptName → Lookup) (depth : ℕ) (delivery : Delivery) (name : ScriptName) (optional : Bool) (line : ℕ) (ops : List Operation) (old new : RunState) (there : Bool) → HasCode (found_at find name) ops → there ≡ true
    → new ≡ record old { lookups = with_lookup name there old.lookups } → enters find depth delivery name ops new ≡ looks_up find depth delivery name optional line old
looks_present find depth delivery name optional line ops old new there has is noted =
    ap (enters find depth delivery name ops) (noted ∙ ap (λ b. record old { lookups = with_lookup name b old.lookups }) (is ∙ sym (has_text (found_at find name) ops has)))
    ∙ by_found_code find depth delivery name optional line (found_at find name) ops (looked_up name (found_at find name) old) has

-- how the including script goes on after the included one, by how the included one ended
pub resumes : (before : Values) (ending : endings.Ending) (s : RunState) → ending_by (resumed_by ending) (resuming before s) ≡ resumed before (ending_by ending s)
resumes before GoesOn s = refl
resumes before Returned s = refl
resumes before Stopped s = refl
resumes before (Failed error) s = refl

-- entering an included script is running its code, and then going on after it
pub enters_by : (find : ScriptName → Lookup) (depth : ℕ) (delivery : Delivery) (name : ScriptName) (ops : List Operation) (old begun ended after : RunState) (ending back : endings.Ending) → begun ≡ entering name old
    → doing (act_of find depth (inside name delivery)) (inside name delivery) (code_walk ops (length ops)) begun ≡ ending_by ending ended → back ≡ resumed_by ending → after ≡ resuming old.values ended → ending_by back after ≡ enters find depth delivery name ops old
enters_by find depth delivery name ops old begun ended after ending back is_begun runs is_back is_after =
    ap (λ f. ending_by f after) is_back
    ∙ ap (ending_by (resumed_by ending)) is_after
    ∙ resumes old.values ending ended
    ∙ ap (resumed old.values) (sym runs)
    ∙ ap (λ t. resumed old.values (doing (act_of find depth (inside name delivery)) (inside name delivery) (code_walk ops (length ops)) t)) is_begun
