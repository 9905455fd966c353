use Rattle.std.proofs.Common.{sym, ◌∙◌}
use Rattle.script_names.specs.contracts.name.ScriptNamePartialEq.TheImpl as equality
use Rattle.sieve_run.proofs.LookedUp.{found_is_looked_up, names_alike, lookup_is_new, lookup_stays}
use Rattle.sieve_run.proofs.lookups.note_lookup.Goals as goal

pub returns-in_ok-insert : goal.returns-in_ok-insert
returns-in_ok-insert c =
    let lookups = c.args.lookups.now.entries in
    let none = sym c.contains_key.ensures ∙ c.if-not-contains_key.true in
    lookup_is_new equality.eq-value.it c.args.name.now c.in_ok-copy.field-0 c.args.is_there lookups c.insert.new.self.entries none
    (sym (found_is_looked_up (equality.eq-value.it c.args.name.now) c.args.name.now lookups (names_alike c.args.name.now)) ∙ none) c.in_ok-copy.ensures c.in_ok-insert.ensures.entries

pub returns-else-not-contains_key : goal.returns-else-not-contains_key
returns-else-not-contains_key c =
    let lookups = c.args.lookups.now.entries in
    lookup_stays c.args.name.now c.args.is_there lookups
    (sym (found_is_looked_up (equality.eq-value.it c.args.name.now) c.args.name.now lookups (names_alike c.args.name.now)) ∙ sym c.contains_key.ensures ∙ c.if-not-contains_key.false)
