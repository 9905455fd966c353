-- How strings are printed in a dump.
use Rattle.std.specs.Prelude.{ℕ, Bool, true, false, List, [], ◌∷◌, ◌++◌, Option, Some, None, codes, decimal}
use Rattle.std.specs.List.{flat_map}
use Rattle.devices.specs.Writers.{quoted}
use Rattle.sieve_variables.specs.Part.{Part, literal, variable_part, match_part}
use Rattle.sieve_variables.specs.Variable.{Variable, local_variable, global_variable}

-- the texts of items in order, each but the first after a mark
abbrev pub separated : {X : Type 0} → List ℕ → (X → List ℕ) → List X → List ℕ
separated mark text [] = []
separated mark text (x ∷ xs) = text x ++ flat_map (λ y. mark ++ text y) xs

-- the word that says whether a variable is local or global, and the name of the variable
abbrev pub scope_word : Variable → List ℕ
scope_word (local_variable name) = codes "local("
scope_word (global_variable name) = codes "global("

abbrev pub name_of : Variable → List ℕ
name_of (local_variable name) = name
name_of (global_variable name) = name

abbrev pub part_text : Part → List ℕ
part_text (literal octets) = quoted octets
part_text (variable_part variable) = scope_word variable ++ name_of variable ++ codes ")"
part_text (match_part index) = codes "match(" ++ decimal index ++ codes ")"

-- A string: its parts, joined by `+`. One without parts is empty.
unfoldable pub string_text : List Part → List ℕ
string_text [] = codes "\"\""
string_text (part ∷ parts) = separated (codes "+") part_text (part ∷ parts)

-- strings in brackets
unfoldable pub list_text : List (List Part) → List ℕ
list_text strings = codes "[" ++ separated (codes ", ") string_text strings ++ codes "]"

-- a word, if it is given
abbrev pub given_word : Bool → List ℕ → List ℕ
given_word false word = []
given_word true word = word

-- a string after a command's word
unfoldable pub worded_text : List ℕ → List Part → List ℕ
worded_text word string = word ++ string_text string

-- a word and a string, if the string is given
unfoldable pub given_string_text : List ℕ → Option (List Part) → List ℕ
given_string_text word None = []
given_string_text word (Some string) = word ++ string_text string

-- strings in brackets after a space
unfoldable pub further_list : List (List Part) → List ℕ
further_list strings = codes " " ++ list_text strings

-- a string after a space
unfoldable pub further_string : List Part → List ℕ
further_string string = codes " " ++ string_text string
