use Rattle.std.proofs.Common.{List, ℕ, sym, ◌∙◌}
use Rattle.sieve_conditions.specs.Matching.{match_of}
use Rattle.sieve_conditions.specs.view.FieldTests.{found_with}
use Rattle.sieve_conditions.proofs.OnlyKeys.{parts_same}
use Rattle.sieve_conditions.proofs.field_values.find_in_addresses.Goals as goal

pub returns-in_ok-found-in-Some : goal.returns-in_ok-found-in-Some
returns-in_ok-found-in-Some c =
    let matcher = c.args.matcher.now in
    c.in_ok-found-in-Some.ensures ∙ sym (parts_same (found_with matcher) (λ (text : List ℕ). match_of matcher.comparison text c.in-Some.key.now) c.in-Some.ensures c.args.part c.args.addresses.now)
