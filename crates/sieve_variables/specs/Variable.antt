-- Variables by their names in lower case. A script has its own (RFC 5229, section 3), and scripts
-- share others (RFC 6609, 3.4).
use Rattle.octets.specs.Octet.{is_among}
use Rattle.std.specs.Prelude.{ℕ, List, [], ◌∷◌, ◌++◌, length, drop, if◌then◌else◌}
use Rattle.sieve_variables.specs.Name.{folded_name, global_prefix, is_global_name}

pub data Variable : Type 0 where
  local_variable : (name : List ℕ) → Variable
  global_variable : (name : List ℕ) → Variable

-- The variable that a command or a test names. After `global.` an identifier names one that scripts
-- share (RFC 6609, 3.4.2).
abbrev pub variable_named : List ℕ → Variable
variable_named name = if is_global_name name then global_variable (folded_name (drop (length global_prefix) name)) else local_variable (folded_name name)

-- names and one more, each once
abbrev pub with_name : List ℕ → List (List ℕ) → List (List ℕ)
with_name name names = if is_among name names then names else names ++ name ∷ []

-- the variable after names, in lower case, were declared global (RFC 6609, 3.4.1)
abbrev pub scoped : (declared : List (List ℕ)) → Variable → Variable
scoped declared (local_variable name) = if is_among name declared then global_variable name else local_variable name
scoped declared (global_variable name) = global_variable name
