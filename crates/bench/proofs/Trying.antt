-- The answer of an edit that is tried.
use Rattle.std.proofs.Common.{◌≡◌, Bool, true, false, ◌||◌, if◌then◌else◌, List, ℕ, Option, None, Some, is_none, is_some, refl}
use Rattle.script_names.specs.declared.name.ScriptName.{ScriptName}
use Rattle.bench.specs.Content.{is_long, rename_refusal, text_at}
use Rattle.bench.specs.declared.fault.EditFault.TheVariants.{TooLarge, NoSuchScript, NameTaken}

-- a script that is renamed is there
pub named_there : (scripts : List (ScriptName × List ℕ)) (from to : ScriptName) → rename_refusal scripts from to ≡ None → is_some (text_at scripts from) ≡ true
named_there scripts from to none = by (is_long from.name || is_long to.name) (text_at scripts from) (is_some (text_at scripts to)) none
  where
    by : (long : Bool) (text : Option (List ℕ)) (taken : Bool) → (if long then Some TooLarge else if is_none text then Some NoSuchScript else if taken then Some NameTaken else None) ≡ None → is_some text ≡ true
    by true text taken is = absurd cc
    by false None taken is = absurd cc
    by false (Some text) taken is = refl
