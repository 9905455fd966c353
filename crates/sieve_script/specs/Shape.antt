-- The shape of an argument of a text, where some tags are taken.
use Rattle.std.specs.Prelude.{ℕ, Bool, not, ◌&&◌, List, map, length, nat_eq, if◌then◌else◌}
use Rattle.sieve_syntax.specs.Tree.{Argument, strings, number, tag}
use Rattle.sieve_profile.specs.Profile.{Profile}
use Rattle.sieve_script.specs.Label.{labels_of}
use Rattle.sieve_table.specs.Known.{known_tag}
use Rattle.sieve_table.specs.Table.{Row, tag_named}
use Rattle.sieve_script.specs.declared.label.Label.{Label}
use Rattle.sieve_script.specs.declared.label.Shape.{Shape}
use Rattle.sieve_script.specs.declared.label.Shape.TheVariants as shape
use Rattle.sieve_table.specs.declared.tag.Tag.{Tag}

-- the shape of strings: one string without brackets, or a list (RFC 5228, section 2.4.2.1)
abbrev pub texts_shape : ℕ → Bool → Shape
texts_shape count bracketed = if nat_eq count 1 && not bracketed then shape.Text else shape.Texts

abbrev pub shape_of : List Tag → Argument → Shape
shape_of tags (strings items bracketed) = texts_shape (length items) bracketed
shape_of tags (number value line) = shape.Number
shape_of tags (tag name line) = shape.Tag (tag_named tags name)

abbrev pub shapes_of : List Tag → List Argument → List Shape
shapes_of tags args = map (shape_of tags) args

-- AS A BENCH OF A PROFILE READS THEM

-- a tag that the bench doesn't know is another tag, and takes no argument
abbrev pub known_shape : Profile → Shape → Shape
known_shape profile shape.Text = shape.Text
known_shape profile shape.Texts = shape.Texts
known_shape profile shape.Number = shape.Number
known_shape profile (shape.Tag taken) = shape.Tag (known_tag profile taken)

abbrev pub known_shapes : Profile → List Tag → List Argument → List Shape
known_shapes profile tags args = map (λ a. known_shape profile (shape_of tags a)) args

-- the labels of a row's arguments
abbrev pub known_labels : Profile → Row → List Argument → List Label
known_labels profile row args = labels_of row (known_shapes profile row.tags args)
