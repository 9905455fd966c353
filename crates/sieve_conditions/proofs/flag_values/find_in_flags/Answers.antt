use Rattle.std.proofs.Common.{◌∙◌, ap, sym}
use Rattle.sieve_script.specs.declared.reading.MatchType.{MatchType}
use Rattle.sieve_conditions.specs.Matching.{first_match, first_some, pairs_with}
use Rattle.sieve_conditions.specs.view.FieldTests.{key_texts}
use Rattle.sieve_conditions.proofs.Holding.{found_among, plain}
use Rattle.sieve_conditions.proofs.flag_values.find_in_flags.Goals as goal

pub returns-in_ok-has_some-in-Is : goal.returns-in_ok-has_some-in-Is
returns-in_ok-has_some-in-Is c =
    let collation = c.args.matcher.now.comparison.collation in let flags = c.args.flags.now in let keys = key_texts c.args.matcher.now in
    c.plain_match.ensures ∙ ap plain c.in_ok-has_some-in-Is.ensures ∙ sym (found_among collation flags keys)
    ∙ ap (λ (t : MatchType). first_some (λ flag. first_match (record { match_type = t; collation = collation }) (pairs_with keys flag)) flags) (sym c.in-Is.is)
