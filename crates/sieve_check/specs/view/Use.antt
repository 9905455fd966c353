-- The breaches that a search finds in a command or test of a row. Whether a `require` may stand
-- there is left out.
use Rattle.std.specs.Prelude.{ℕ, Bool, false, List, ◌++◌}
use Rattle.sieve_syntax.specs.Tree.{Argument, Tests}
use Rattle.sieve_check.specs.Breach.{Breach, breaches_by, breaches_in, kind_breaks, use_lacks}
use Rattle.sieve_table.specs.Rule.{all_rules}
use Rattle.sieve_check.specs.Context.{Context}
use Rattle.sieve_check.specs.Element.{row_elements}
use Rattle.sieve_script.specs.Shape.{known_shapes}
use Rattle.sieve_table.specs.Table.{Row}

-- The breaches of the use itself, and then those of its arguments. `alone` says whether it is an
-- `elsif` or `else` that follows no `if` or `elsif`.
abbrev pub row_found : (alone : Bool) → Context → ℕ → Row → List Argument → Tests → (ends_by_block : Bool) → List Breach
row_found alone context line row args ts ends_by_block =
    breaches_by (kind_breaks false alone (use_lacks context.profile context.required row args) row (known_shapes context.profile row.tags args) ts ends_by_block) line all_rules
    ++ breaches_in (row_elements context row args ts ends_by_block)
