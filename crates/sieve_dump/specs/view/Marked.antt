-- The text of a part or a string that isn't the first.
use Rattle.std.specs.Prelude.{ℕ, List, ◌++◌, codes}
use Rattle.sieve_variables.specs.Part.{Part}
use Rattle.sieve_dump.specs.Strings.{part_text, string_text}

unfoldable pub marked_part : Part → List ℕ
marked_part part = codes "+" ++ part_text part

unfoldable pub marked_string : List Part → List ℕ
marked_string parts = codes ", " ++ string_text parts
