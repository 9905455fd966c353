use Rattle.std.proofs.Common.{◌≡◌, ◌++◌, drop, map}
use Rattle.packed_strings.specs.view.FieldNames.{kept_hash}
use Rattle.packed_strings.proofs.field_names.put_after.Given as goal

-- The numbers kept so far, and then those for the names that are left, are one list. It is the
-- numbers that were kept at first and then those for all names.
abbrev pub invariant-loop-text : goal.invariant-loop-text
invariant-loop-text l = l.hashes.items ++ map kept_hash (drop l.text-index l.fn.texts.items) ≡ l.initial.hashes.items ++ map kept_hash l.fn.texts.items
