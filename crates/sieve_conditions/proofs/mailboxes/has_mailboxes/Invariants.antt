use Rattle.std.proofs.Common.{◌≡◌, drop, map}
use Rattle.std.specs.List.{list_all}
use Rattle.sieve_conditions.specs.Matching.{has_mailbox}
use Rattle.sieve_variables.specs.Value.{text_value}
use Rattle.sieve_conditions.proofs.mailboxes.has_mailboxes.Given as goal

-- the names that are left decide whether there is a mailbox of each name
abbrev pub invariant-loop-i : goal.invariant-loop-i
invariant-loop-i l =
    let has = has_mailbox l.envelope in
    let names = map (text_value l.values) l.names in
    list_all has (drop l.i names) ≡ list_all has names
