use Rattle.std.proofs.Common.{◌≡◌, ◌∙◌, rules}
use Rattle.script_names.specs.Name.{name_eq}
use Rattle.script_names.specs.declared.name.ScriptName.{ScriptName}
use Rattle.script_names.specs.contracts.name.ScriptNamePartialEq.TheImpl as equality
use Rattle.sieve_run.proofs.LookedUp.{found_is_looked_up}
use Rattle.bench.proofs.entry.looked_up.Goals as goal

same : (a b : ScriptName) → equality.eq-value.it a b ≡ name_eq a b
same a b = search rules

pub returns : goal.returns
returns c =
    rw (← c.lookups.ensures) (c.contains_key.ensures ∙ found_is_looked_up (equality.eq-value.it c.args.name.now) c.args.name.now c.lookups.result.now.entries (same c.args.name.now))
