-- Worked rows of facts that no run of the program shows. They are of watched runs, of libraries
-- with scripts of too long names, and of laws about actions.
use Rattle.std.proofs.Common.{◌≡◌, true, false, List, [], ◌∷◌, length, nat_lt, if◌then◌else◌, None, Some, refl, ap, codes}
use Rattle.std.specs.List.{IsDistinct}
use Rattle.sieve_script.specs.Script.{Commands, no_commands}
use Rattle.sieve_variables.specs.Value.{begun_values, no_values}
use Rattle.script_names.specs.declared.location.Location.TheVariants.{Personal}
use Rattle.sieve_limits.specs.Limits.{name_limit}
use Rattle.script_names.specs.Name.{name_eq}
use Rattle.sieve_delivery.specs.Ending.{Ending, goes_on}
use Rattle.sieve_delivery.specs.Delivery.{Arrival, Delivery, inside}
use Rattle.sieve_delivery.specs.State.{RunState}
use Rattle.sieve_delivery.specs.declared.envelope.Envelope.{Envelope}
use Rattle.sieve_profile.specs.Profile.{empty_profile}
use Rattle.sieve_delivery.specs.declared.action.Action.TheVariants.{Store, Discard}
use Rattle.sieve_delivery.specs.declared.action.Filing.{Filing}
use Rattle.sieve_delivery.specs.declared.error.ErrorKind.TheVariants.{MissingScript}
use Rattle.script_names.specs.declared.name.ScriptName.{ScriptName}
use Rattle.sieve_run.specs.Depth.{watched_include}
use Rattle.sieve_run.specs.Distinct.{AreDistinctActions}
use Rattle.sieve_run.specs.Library.{Lookup, missing, present, found_at}
use Rattle.sieve_run.specs.Run.{begun, exec, included, verdict_of, resumed, verdict_at}

abbrev main : ScriptName
main = record { location = Personal; name = codes "main" }

abbrev script_a : ScriptName
script_a = record { location = Personal; name = codes "a" }

abbrev script_b : ScriptName
script_b = record { location = Personal; name = codes "b" }

abbrev envelope : Envelope
envelope = record { from = []; to = []; mailbox = codes "INBOX"; mailboxes = []; clock = None }

-- WATCHED RUNS

-- a library that has one script
abbrev having : ScriptName → Commands → ScriptName → Lookup
having name program asked = if name_eq name asked then present program else missing

-- the state of a run that has entered "a" too
abbrev entered_a : RunState
entered_a = record { entries = []; cancelled = false; lookups = (main, true) ∷ (script_a, true) ∷ []; entered = main ∷ script_a ∷ []; values = no_values; flags = [] }

-- a delivery in a script that is included by these scripts
abbrev under : List ScriptName → Delivery
under including = record { arrival = record { message = []; envelope = envelope; own = None; profile = empty_profile }; script = main; including = including }

abbrev nine : List ScriptName
nine = script_b ∷ script_b ∷ script_b ∷ script_b ∷ script_b ∷ script_b ∷ script_b ∷ script_b ∷ script_b ∷ []

-- in a watched run, a script that 10 scripts include is run, and one that 11 scripts include isn't
watched_row : (beyond : Delivery → Commands → RunState → Ending) → watched_include beyond (having script_a no_commands) 1 (under nine) script_a false false 2 (begun main) ≡ goes_on entered_a
unfolding exec included watched_include
watched_row beyond = refl

beyond_row : (beyond : Delivery → Commands → RunState → Ending) → watched_include beyond (having script_a no_commands) 1 (under (script_b ∷ nine)) script_a false false 2 (begun main) ≡ resumed no_values (beyond (inside script_a (under (script_b ∷ nine))) no_commands (record entered_a { values = begun_values no_values }))
unfolding watched_include
beyond_row beyond = refl

-- LONG NAMES

-- a name of 1,025 octets is missing, whatever the library has there
long_include_row : (find : ScriptName → Lookup) (name : ScriptName) → length name.name ≡ 1025 → found_at find name ≡ missing
long_include_row find name is = ap (λ n. if nat_lt name_limit n then missing else find name) is

long_name_row : (find : ScriptName → Lookup) (name : ScriptName) (arrival : Arrival) → length name.name ≡ 1025 → verdict_of find (Some name) arrival
    ≡ record { entries = []; implicit = Some []; error = Some (record { script = name; line = 0; kind = MissingScript }); lookups = (name, false) ∷ [] }
unfolding verdict_of
long_name_row find name arrival is = ap (λ n. verdict_at find arrival name (if nat_lt name_limit n then missing else find name)) is

-- DISTINCT ACTIONS

-- a store without settings beside its mailbox
abbrev plain : Filing
plain = record { create = false; special_use = None }

-- Two stores into one mailbox are one action. Their flags and their places don't matter.
one_store_row : AreDistinctActions (Store (codes "a") [] plain ∷ Discard ∷ Store (codes "a") (codes "\\Seen" ∷ []) plain ∷ []) → ⊥
unfolding IsDistinct
one_store_row distinct = let e = distinct.0.1.0 in absurd cc
