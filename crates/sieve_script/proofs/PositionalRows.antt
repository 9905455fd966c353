-- Worked rows of tags' own and positional arguments, as the laws have them.
use Rattle.std.proofs.Common.{◌≡◌, [], ◌∷◌, Some, refl}
use Rattle.sieve_script.specs.Positional.{IsOwn, positional_of}
use Rattle.sieve_script.specs.declared.label.Shape.TheVariants as shape
use Rattle.sieve_table.specs.Table.{slot}
use Rattle.sieve_table.specs.declared.row.Form.TheVariants as form
use Rattle.sieve_table.specs.declared.row.Role.TheVariants as role
use Rattle.sieve_table.specs.declared.tag.Tag.TheVariants as tag

-- header :comparator "i;octet" :is "Subject" ["a"]
positional_row : positional_of (shape.Tag (Some tag.Comparator) ∷ shape.Text ∷ shape.Tag (Some tag.Is) ∷ shape.Text ∷ shape.Texts ∷ []) ≡ shape.Text ∷ shape.Texts ∷ []
positional_row = refl

own_row : IsOwn (shape.Tag (Some tag.Comparator) ∷ shape.Text ∷ shape.Tag (Some tag.Is) ∷ shape.Text ∷ shape.Texts ∷ []) 1 (slot form.One role.ComparatorName)
own_row = record { before = 0; next = refl; tag = tag.Comparator; tagged = refl; takes = refl; looks = shape.Text; there = refl; fit = refl }

-- header :comparator ["i;octet"] "a" "b": a list is no comparator, so it is
-- the first positional argument
three_row : positional_of (shape.Tag (Some tag.Comparator) ∷ shape.Texts ∷ shape.Text ∷ shape.Text ∷ []) ≡ shape.Texts ∷ shape.Text ∷ shape.Text ∷ []
three_row = refl
