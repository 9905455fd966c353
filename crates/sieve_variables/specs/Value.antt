-- The octets that strings stand for while a script runs (RFC 5229, section 3).
use Rattle.std.specs.Prelude.{ℕ, Bool, true, ◌||◌, List, [], Option, Some, None, is_some, slice_get, length, nat_eq, nat_lt}
use Rattle.std.specs.List.{flat_map}
use Rattle.std.specs.Map.{lookup}
use Rattle.indexmap.specs.IndexMap as ordered
use lib.Pointwise.{pointwise}
use Rattle.sieve_limits.specs.Limits.{global_limit}
use Rattle.sieve_variables.specs.Part.{Part, literal, variable_part, match_part}
use Rattle.sieve_variables.specs.Variable.{Variable, local_variable, global_variable}

-- the variables while a script runs
pub record Values : Type 0 where
  -- the variables that the script has set: names in lower case with values (RFC 5229, section 4)
  pub locals : List (List ℕ × List ℕ)
  -- the variables that scripts share and that the run has set (RFC 6609, 3.4)
  pub globals : List (List ℕ × List ℕ)
  -- The texts of the script's last successful `:matches` that sets match variables (RFC 5229, 3.2).
  -- They are the whole value, and the text of each wildcard.
  pub matched : List (List ℕ)

-- the values at the start of a run
abbrev pub no_values : Values
no_values = record { locals = []; globals = []; matched = [] }

-- the state of a script that it doesn't share: its variables and the texts of its last match
pub record Own : Type 0 where
  pub locals : List (List ℕ × List ℕ)
  pub matched : List (List ℕ)

abbrev pub own_of : Values → Own
own_of values = record { locals = values.locals; matched = values.matched }

abbrev pub with_own : Own → Values → Values
with_own own values = record values { locals = own.locals; matched = own.matched }

-- the values at the start of a script that another one includes, which has nothing of its own
abbrev pub begun_values : Values → Values
begun_values values = with_own (record { locals = []; matched = [] }) values

-- the values after an included script: the including script has its own again (RFC 6609, 3.4)
abbrev pub resumed_values : (before ended : Values) → Values
resumed_values before ended = with_own (own_of before) ended

abbrev pub or_empty : Option (List ℕ) → List ℕ
or_empty None = []
or_empty (Some value) = value

-- The value under a name. A variable that isn't set is empty (RFC 5229, section 3).
abbrev pub held_under : List ℕ → List (List ℕ × List ℕ) → List ℕ
held_under name variables = or_empty (lookup (pointwise nat_eq name) variables)

-- the value of a variable
abbrev pub variable_value : Values → Variable → List ℕ
variable_value values (local_variable name) = held_under name values.locals
variable_value values (global_variable name) = held_under name values.globals

-- The octets that a part stands for. A match variable that doesn't exist is empty (RFC 5229, 3.2).
abbrev pub part_value : Values → Part → List ℕ
part_value values (literal octets) = octets
part_value values (variable_part variable) = variable_value values variable
part_value values (match_part index) = or_empty (slice_get values.matched index)

-- The octets that a string stands for. The value of a variable isn't looked through for references.
abbrev pub text_value : Values → List Part → List ℕ
text_value values parts = flat_map (part_value values) parts

-- whether a name is set
abbrev pub is_set_under : List ℕ → List (List ℕ × List ℕ) → Bool
is_set_under name variables = is_some (lookup (pointwise nat_eq name) variables)

-- whether a variable is set
abbrev pub is_set : Variable → Values → Bool
is_set (local_variable name) values = is_set_under name values.locals
is_set (global_variable name) values = is_set_under name values.globals

-- whether a name is set, or there is room for one more (RFC 5229, section 6)
abbrev pub has_room_under : List ℕ → List (List ℕ × List ℕ) → Bool
has_room_under name variables = is_set_under name variables || nat_lt (length variables) global_limit

-- Whether a variable can be set. Those of a script are counted before it runs (RFC 5229, section 6;
-- RFC 6609, 3.4).
abbrev pub has_room_for : Variable → Values → Bool
has_room_for (local_variable name) values = true
has_room_for (global_variable name) values = has_room_under name values.globals

-- the variables with a value under a name
abbrev pub with_held : List ℕ → List ℕ → List (List ℕ × List ℕ) → List (List ℕ × List ℕ)
with_held name value variables = ordered.insert_entry (pointwise nat_eq) variables name value

-- the values with a variable set (RFC 5229, section 4)
abbrev pub with_variable : Variable → List ℕ → Values → Values
with_variable (local_variable name) value values = record values { locals = with_held name value values.locals }
with_variable (global_variable name) value values = record values { globals = with_held name value values.globals }

-- the values with the texts of a match (RFC 5229, 3.2)
abbrev pub with_matched : List (List ℕ) → Values → Values
with_matched matched values = record values { matched = matched }
