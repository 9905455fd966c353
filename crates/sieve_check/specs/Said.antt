-- The octets that strings say. Where `encoded-character` is required, the sequences in a string
-- stand for characters (RFC 5228, section 2.4.2.4). They are replaced before anything else is
-- judged of the string. That the strings of `require` are left out is this project's choice. A
-- string without a role stays as it is written; it isn't judged.
use Rattle.std.specs.Prelude.{ℕ, Bool, false, not, ◌&&◌, List, [], ◌∷◌, Option, Some, None, map, drop, if◌then◌else◌}
use Rattle.encoded_characters.specs.Scan.{characters_replaced}
use Rattle.sieve_syntax.specs.Tree.{Text, Argument, strings, number, tag}
use Rattle.sieve_script.specs.Role.{first_role}
use Rattle.sieve_script.specs.declared.label.Label.{Label}
use Rattle.sieve_table.specs.Required.{Required, is_required}
use Rattle.sieve_table.specs.Role.{same_role}
use Rattle.sieve_table.specs.declared.capability.Capability.TheVariants.{EncodedCharacter}
use Rattle.sieve_table.specs.declared.row.Role.{Role}
use Rattle.sieve_table.specs.declared.row.Role.TheVariants.{Capabilities}

-- whether the sequences in a string stand for characters, by its role, if it has one
abbrev pub takes_sequences : Required → Option Role → Bool
takes_sequences required None = false
takes_sequences required (Some role) = is_required required EncodedCharacter && not (same_role Capabilities role)

-- the octets that a string says; none where one of its sequences stands for no character
abbrev pub said : Required → Option Role → List ℕ → Option (List ℕ)
said required role octets = if takes_sequences required role then characters_replaced octets else Some octets

-- the octets that a string says, or else those that are written
abbrev pub said_or : List ℕ → Option (List ℕ) → List ℕ
said_or written None = written
said_or written (Some octets) = octets

-- A string with the octets that it says. One that says nothing stays as it is written, which is a
-- breach. It names no variable, since no name has a `$`.
abbrev pub said_text : Required → Option Role → Text → Text
said_text required role t = record { string = said_or t.string (said required role t.string); line = t.line }

abbrev pub said_argument : Required → Option Role → Argument → Argument
said_argument required role (strings items bracketed) = strings (map (said_text required role) items) bracketed
said_argument required role (number value line) = number value line
said_argument required role (tag name line) = tag name line

-- arguments, each by its label
abbrev pub said_arguments : Required → List Label → List Argument → List Argument
said_arguments required labels [] = []
said_arguments required labels (a ∷ args) = said_argument required (first_role labels) a ∷ said_arguments required (drop 1 labels) args
