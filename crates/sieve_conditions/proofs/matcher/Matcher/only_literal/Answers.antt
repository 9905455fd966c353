use Rattle.std.proofs.Common.{◌≡◌, Some, length, map, ap, ◌∙◌, rules}
use Rattle.std.specs.List.{flat_map}
use Rattle.sieve_script.specs.Given.{literal_in_parts}
use Rattle.sieve_variables.specs.Value.{text_value}
use Rattle.sieve_conditions.specs.Matching.{first_match, pairs_with}
use Rattle.sieve_conditions.specs.view.FieldTests.{cut_key}
use Rattle.sieve_conditions.proofs.OnlyKeys.{only_key}
use Rattle.sieve_conditions.proofs.matcher.Matcher.only_literal.Goals as goal

pub returns-in-Some : goal.returns-in-Some
returns-in-Some c =
    let matcher = c.args.self.now in
    let one : length c.args.self.now.keys.now ≡ 1 = search rules in
    let is : Some c.in-Some.key.now ≡ literal_in_parts c.get.result.now = search rules in
    λ value.
    ap (λ cut. first_match matcher.comparison (pairs_with (flat_map (cut_key cut) (map (text_value matcher.values.now) matcher.keys.now)) value)) c.if-self.false
    ∙ only_key matcher.comparison matcher.values.now matcher.keys.now c.get.result.now c.in-Some.key.now one c.get.ensures is value
