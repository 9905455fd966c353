-- The texts that are written: octets, their quoted form, and pieces of text.
use Rattle.std.specs.Prelude.{◌≡◌, ℕ, ◌/◌, ◌%◌, ◌≤◌, ◌==◌, ◌||◌, nat_lt, if◌then◌else◌, List, [], ◌∷◌, ◌++◌, Option, Result, MatchResult, codes, decimal}
use Rattle.std.specs.List.{flat_map}
use Rattle.std.specs.Io.KnownBytes.{Appends}
use Rattle.devices.specs.Devices.{HasRisen}
use Rattle.devices.specs.declared.writers.Piece.{Piece}
use Rattle.devices.specs.declared.writers.Piece.TheVariants.{Raw, Quoted, Name, Number}
use Rattle.script_names.specs.declared.name.ScriptName.{ScriptName}
use Rattle.script_names.specs.Name.{location_word}
use Rattle.octets.specs.Hex.{hex_digit}
use Rattle.octets.specs.Octet.{octet_of}

-- The spelling of an octet between quotes. `"` and `\` stand after a `\`. An octet that isn't a
-- visible character of ASCII or a space is `\x` and two digits.
abbrev pub octet_spelling : ℕ → List ℕ
octet_spelling octet =
    if octet == octet_of "\"" || octet == octet_of "\\" then octet_of "\\" ∷ octet ∷ []
    else if nat_lt octet (octet_of " ") || nat_lt (octet_of "~") octet then octet_of "\\" ∷ octet_of "x" ∷ hex_digit (octet / 16) ∷ hex_digit (octet % 16) ∷ []
    else octet ∷ []

-- the quoted form of octets
unfoldable pub quoted : List ℕ → List ℕ
quoted octets = codes "\"" ++ flat_map octet_spelling octets ++ codes "\""

-- the name of a script: the word of its location, and its octets in their quoted form
unfoldable pub name_text : ScriptName → List ℕ
name_text name = location_word name.location ++ codes " " ++ quoted name.name

-- the text of a piece
abbrev pub piece_text : Piece → List ℕ
piece_text (Raw octets) = octets.now
piece_text (Quoted octets) = quoted octets.now
piece_text (Name name) = name_text name.now
piece_text (Number n) = decimal n

-- the text of pieces, in order
abbrev pub pieces_text : List Piece → List ℕ
pieces_text pieces = flat_map piece_text pieces

-- Between two states of a device, this text was written.
pub record Wrote {S : Type 0} (contents : S → Option (List ℕ)) (fault_count : S → ℕ) (old new : S) (text : List ℕ) : Type 0 where
  pub text_appended : Appends (contents old) (contents new) text
  pub faults_kept : fault_count old ≤ fault_count new

-- Between two states of a device, some front of this text was written, and a fault was counted.
pub record WroteFront {S : Type 0} (contents : S → Option (List ℕ)) (fault_count : S → ℕ) (old new : S) (text : List ℕ) : Type 0 where
  pub front : List ℕ
  pub back : List ℕ
  pub whole : front ++ back ≡ text
  pub front_appended : Appends (contents old) (contents new) front
  pub fault_counted : HasRisen (fault_count old) (fault_count new)

-- The work of a function that writes this text. If it answers `Ok`, it has written the text, and if
-- it answers `Err`, a front of it.
abbrev pub Writes : {S T E : Type 0} → (S → Option (List ℕ)) → (S → ℕ) → Result T E → S → S → List ℕ → Type 0
Writes contents fault_count result old new text =
    MatchResult result (λ _. Wrote contents fault_count old new text) (λ _. WroteFront contents fault_count old new text)
