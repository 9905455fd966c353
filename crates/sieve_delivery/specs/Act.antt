-- Commands that act (RFC 5228, 4; RFC 5229, 4; RFC 5232, 3).
use Rattle.std.specs.Prelude.{ℕ, List, take, Bool, false, Option, None, Some, if◌then◌else◌}
use Rattle.flag_lists.specs.Flags.{flag_list, flag_text, flag_union, flags_without}
use Rattle.sieve_limits.specs.Limits.{value_limit}
use Rattle.sieve_script.specs.Reading.{Leaf, keep_leaf, fileinto_leaf, redirect_leaf, discard_leaf, set_leaf, flag_leaf, include_leaf, vacation_leaf, reject_leaf}
use Rattle.sieve_script.specs.declared.reading.FlagChange.{FlagChange}
use Rattle.sieve_script.specs.declared.reading.FlagChange.TheVariants as change
use Rattle.script_names.specs.declared.name.ScriptName.{ScriptName}
use Rattle.sieve_delivery.specs.declared.action.Action.TheVariants.{Discard}
use Rattle.sieve_delivery.specs.declared.error.ErrorKind.TheVariants.{TooManyGlobals}
use Rattle.sieve_delivery.specs.Delivery.{Delivery}
use Rattle.sieve_delivery.specs.State.{RunState}
use Rattle.sieve_variables.specs.Modifier.{modified}
use Rattle.sieve_variables.specs.declared.modifier.Modifiers.{Modifiers}
use Rattle.sieve_variables.specs.Part.{Part}
use Rattle.sieve_variables.specs.Value.{has_room_for, text_value, variable_value, with_variable}
use Rattle.sieve_variables.specs.Variable.{Variable}
use Rattle.sieve_delivery.specs.Ending.{Ending, goes_on}
use Rattle.sieve_delivery.specs.Performing.{fails_at, deed_of, performs}
use Rattle.sieve_delivery.specs.Storing.{flags_named, keeps, files_into}
use Rattle.sieve_delivery.specs.Sending.{sends, responds, rejects}

-- The flags after a command that names some. The commands are setflag (RFC 5232, 3.1), addflag
-- (RFC 5232, 3.2) and removeflag (RFC 5232, 3.3).
abbrev pub changed_flags : FlagChange → List (List ℕ) → (named : List (List ℕ)) → List (List ℕ)
changed_flags change.Set flags named = named
changed_flags change.Add flags named = flag_union flags named
changed_flags change.Remove flags named = flags_without flags named

-- The text of flags as the value of a variable. Like each value it has a limit (RFC 5229, 6).
abbrev pub held_flags : List (List ℕ) → List ℕ
held_flags flags = take value_limit (flag_text flags)

-- A variable gets a value (RFC 5229, 4) if there is room for it (RFC 5229, 6). Otherwise the
-- command fails.
abbrev pub gives : Delivery → ℕ → Variable → List ℕ → RunState → Ending
gives delivery line variable value state =
    if has_room_for variable state.values then goes_on (record state { values = with_variable variable value state.values }) else fails_at delivery line TooManyGlobals state

-- a command changes the internal flags, or those that the value of a variable is read as (RFC 5232,
-- 3)
abbrev pub changes : Delivery → ℕ → FlagChange → Option Variable → List (List Part) → RunState → Ending
changes delivery line how None texts state = goes_on (record state { flags = changed_flags how state.flags (flags_named state texts) })
changes delivery line how (Some variable) texts state = gives delivery line variable (held_flags (changed_flags how (flag_list (variable_value state.values variable)) (flags_named state texts))) state

-- discard discards the message (RFC 5228, 4.4)
abbrev pub discards : Delivery → ℕ → RunState → Ending
discards delivery line state = performs delivery line (deed_of Discard false) state

-- set gives a variable a value (RFC 5229, 4)
abbrev pub sets : Delivery → Variable → Modifiers → List Part → ℕ → RunState → Ending
sets delivery variable modifiers value line state = gives delivery line variable (modified modifiers (text_value state.values value)) state

-- How a command that acts ends. `include` gives the ending of an include. setflag, addflag and
-- removeflag change flags (RFC 5232, 3).
abbrev pub act_by : (include : ScriptName → (once optional : Bool) → ℕ → RunState → Ending) → Delivery → Leaf → ℕ → RunState → Ending
act_by include delivery (keep_leaf flags) line state = keeps delivery flags line state
act_by include delivery (fileinto_leaf mailbox settings) line state = files_into delivery mailbox settings line state
act_by include delivery (redirect_leaf address copy) line state = sends delivery address copy line state
act_by include delivery discard_leaf line state = discards delivery line state
act_by include delivery (set_leaf variable modifiers value) line state = sets delivery variable modifiers value line state
act_by include delivery (flag_leaf how variable flags) line state = changes delivery line how variable flags state
act_by include delivery (include_leaf location once optional name) line state = include (record { location = location; name = name }) once optional line state
act_by include delivery (vacation_leaf vacation) line state = responds delivery vacation line state
act_by include delivery (reject_leaf how reason) line state = rejects delivery how reason line state
