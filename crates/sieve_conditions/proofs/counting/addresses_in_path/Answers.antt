use Rattle.std.proofs.Common.{sym, ◌∙◌}
use Rattle.sieve_conditions.proofs.Counted.{path_count}
use Rattle.sieve_conditions.proofs.counting.addresses_in_path.Goals as goal

pub returns-then-is_null_path : goal.returns-then-is_null_path
returns-then-is_null_path c = sym (path_count c.args.text.now _ (sym c.is_null_path.ensures ∙ c.if-is_null_path.true))

pub returns-else-is_null_path : goal.returns-else-is_null_path
returns-else-is_null_path c = sym (path_count c.args.text.now _ (sym c.is_null_path.ensures ∙ c.if-is_null_path.false))
