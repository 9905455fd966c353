use Rattle.sieve_script.specs.Reading.{clock_values, date_values}
use Rattle.sieve_script.specs.view.Reading.{date_zone_as}
use Rattle.sieve_code.specs.Pool.{Pool, string_in, zone_in}
use Rattle.sieve_code.proofs.Keeping.{kept_then, kept_two}
use Rattle.sieve_code.proofs.pools.Pools.add_source.Goals as goal

pub returns-in_ok-part-in-Date : goal.returns-in_ok-part-in-Date
returns-in_ok-part-in-Date c =
    let zone = c.in_ok-zone-in-Date in let field = c.in_ok-field-in-Date in let part = c.in_ok-part-in-Date in
    let front = kept_two (λ a b. date_values a b) _ _ _ (λ (p : Pool). zone_in p zone.zone) (λ (p : Pool). string_in p field.field) (date_zone_as c.in-Date.zone) c.in-Date.field zone.ensures field.ensures in
    rw c.in-Date.is (kept_then _ _ _ _ (λ (p : Pool). string_in p part.part) _ c.in-Date.part front part.ensures)

pub returns-in_ok-part-in-CurrentDate : goal.returns-in_ok-part-in-CurrentDate
returns-in_ok-part-in-CurrentDate c =
    let zone = c.in_ok-zone-in-CurrentDate in let part = c.in_ok-part-in-CurrentDate in
    rw c.in-CurrentDate.is (kept_two (λ a b. clock_values a b) _ _ _ (λ (p : Pool). zone_in p zone.zone) (λ (p : Pool). string_in p part.part) (date_zone_as c.in-CurrentDate.zone) c.in-CurrentDate.part zone.ensures part.ensures)
