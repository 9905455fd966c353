-- The hashes that compiled code keeps for the names of fields that a test looks at.
use Rattle.std.specs.Prelude.{ℕ, List, Option, None, Some}
use Rattle.message_text.specs.view.NameHash.{name_hash}
use Rattle.sieve_script.specs.Given.{literal_in_parts}
use Rattle.sieve_variables.specs.Part.{Part}

-- the hash of octets, or 0 if there are none
abbrev pub hash_or_zero : Option (List ℕ) → ℕ
hash_or_zero None = 0
hash_or_zero (Some octets) = name_hash octets

-- the number that is kept for a name: its hash if the name is one literal, or else 0
abbrev pub kept_hash : List Part → ℕ
kept_hash parts = hash_or_zero (literal_in_parts parts)
