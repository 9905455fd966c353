-- The name and the colon of a field's first line, by their places.
use Rattle.std.specs.Prelude.{◌≡◌, ℕ, ◌<◌, ◌≤◌, true, List, length, take}
use Rattle.std.specs.List.{position_or_len}
use Rattle.message_text.specs.Fields.{begins_field, is_colon, name_in}

pub record IsHead (line : List ℕ) (name_len colon : ℕ) : Type 0 where
  pub begins : begins_field line ≡ true
  pub within : colon < length line
  pub ordered : name_len ≤ colon
  pub at_colon : position_or_len is_colon line ≡ colon
  pub name : name_in line ≡ take name_len line
