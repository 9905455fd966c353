-- The strings, questions and commands that operations of code name by their places.
use Rattle.std.specs.Prelude.{◌≡◌, ℕ, Box, List, [], ◌++◌, Option, Some, None, slice_get, slice_index_or}
use Rattle.std.specs.Option.{option_map}
use Rattle.std.specs.declared.alloc.Global.{Global}
use Rattle.sieve_script.specs.Reading as reading
use Rattle.sieve_script.specs.Reading.{discard_leaf}
use Rattle.sieve_script.specs.declared.reading.Ask.{Ask}
use Rattle.sieve_script.specs.declared.reading.Ask.TheVariants as asked
use Rattle.sieve_script.specs.declared.reading.BodyTransform.{BodyTransform}
use Rattle.sieve_script.specs.declared.reading.DateZone.{DateZone}
use Rattle.sieve_script.specs.declared.reading.Leaf.{Leaf}
use Rattle.sieve_script.specs.declared.reading.Settings.{Settings}
use Rattle.sieve_script.specs.declared.reading.Vacation.{Vacation}
use Rattle.sieve_script.specs.declared.reading.ValueSource.{ValueSource}
use Rattle.sieve_script.specs.view.Reading.{answered_by, ask_by, body_by, date_zone_by, filed_by, leaf_by, source_by}
use Rattle.packed_strings.specs.Joined.{Lists, list_in, lists_plus, no_lists}
use Rattle.sieve_variables.specs.Part.{Part}

-- the question of a test, and a command that acts, with the places of their strings
abbrev pub PackedAsk : Type 0
PackedAsk = Ask ℕ ℕ ℕ

abbrev pub PackedLeaf : Type 0
PackedLeaf = Leaf ℕ ℕ (Box (Vacation ℕ ℕ) Global)

-- Strings, each by its parts, and lists of strings. Also lists of names of fields, questions of
-- tests, and commands that act.
pub record Pool : Type 0 where
  pub strings : List (List Part)
  pub lists : Lists
  pub names : Lists
  pub asks : List PackedAsk
  pub leaves : List PackedLeaf

abbrev pub no_pool : Pool
no_pool = record { strings = []; lists = no_lists; names = no_lists; asks = []; leaves = [] }

-- A pool with more after each of its parts. The ends of further lists are counted from the first
-- string of all.
abbrev pub plus : Pool → Pool → Pool
plus pool more = record {
  strings = pool.strings ++ more.strings;
  lists = lists_plus pool.lists more.lists;
  names = lists_plus pool.names more.names;
  asks = pool.asks ++ more.asks;
  leaves = pool.leaves ++ more.leaves;
}

-- a string
abbrev pub string_in : Pool → ℕ → List Part
string_in pool place = slice_index_or pool.strings place []

-- a list and a string, each of which may be left out
abbrev pub given_list : Pool → Option ℕ → Option (List (List Part))
given_list pool place = option_map (list_in pool.lists) place

abbrev pub given_string : Pool → Option ℕ → Option (List Part)
given_string pool place = option_map (string_in pool) place

-- The zone in which a date is shown. The part of a body that a test looks at. The source that a
-- test takes its values from.
abbrev pub zone_in : Pool → DateZone ℕ → reading.DateZone
zone_in pool = date_zone_by (string_in pool)

abbrev pub body_in : Pool → BodyTransform ℕ → reading.BodyTransform
body_in pool = body_by (list_in pool.lists)

abbrev pub source_in : Pool → ValueSource ℕ ℕ ℕ → reading.ValueSource
source_in pool = source_by (list_in pool.names) (list_in pool.lists) (given_list pool) (string_in pool)

-- the settings of a `fileinto` beside its mailbox, and the arguments of a `vacation`
abbrev pub settings_in : Pool → Settings ℕ ℕ → reading.Settings
settings_in pool = filed_by (given_list pool) (given_string pool)

abbrev pub vacation_in : Pool → Vacation ℕ ℕ → reading.Vacation
vacation_in pool = answered_by (string_in pool) (given_list pool) (given_string pool)

-- the question of a test, and a command that acts
abbrev pub ask_in : Pool → PackedAsk → reading.Ask
ask_in pool = ask_by (list_in pool.names) (list_in pool.lists) (given_list pool) (string_in pool)

abbrev pub leaf_in : Pool → PackedLeaf → reading.Leaf
leaf_in pool = leaf_by (list_in pool.lists) (given_list pool) (string_in pool) (given_string pool) (λ vacation. vacation_in pool vacation.value)

-- The question at a place. Past the last place it is whether the message came before.
abbrev pub ask_at : Pool → ℕ → reading.Ask
ask_at pool place = ask_in pool (slice_index_or pool.asks place asked.Duplicate)

-- The command at a place. Past the last place it is a discard.
abbrev pub leaf_of : Pool → Option PackedLeaf → reading.Leaf
leaf_of pool None = discard_leaf
leaf_of pool (Some leaf) = leaf_in pool leaf

abbrev pub leaf_at : Pool → ℕ → reading.Leaf
leaf_at pool place = leaf_of pool (slice_get pool.leaves place)

-- A pool has grown. With anything after it, it is the old pool with something after that.
abbrev pub PoolGrows : Pool → Pool → Type 0
PoolGrows old new = (more : Pool) → (rest : Pool) × (plus new more ≡ plus old rest)

-- the same is found in a pool with anything after it
abbrev pub Keeps : {X : Type 0} → Pool → (Pool → X) → X → Type 0
Keeps pool find x = (more : Pool) → find (plus pool more) ≡ x

-- the pool has grown, and something is found in it and in all with more after it
pub record Kept {X : Type 0} (old new : Pool) (find : Pool → X) (x : X) : Type 0 where
  pub grows : PoolGrows old new
  pub keeps : Keeps new find x
