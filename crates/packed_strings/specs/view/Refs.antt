-- Sources of values for the tests of compiled code, and the settings of its commands.
use Rattle.std.specs.Prelude.{List}
use Rattle.std.specs.Option.{option_copied}
use denote.Ref.{Bor}
use Rattle.sieve_script.specs.Reading as reading
use Rattle.sieve_script.specs.declared.reading.BodyTransform.{BodyTransform}
use Rattle.sieve_script.specs.declared.reading.DateZone.{DateZone}
use Rattle.sieve_script.specs.declared.reading.Settings.{Settings}
use Rattle.sieve_script.specs.declared.reading.Vacation.{Vacation}
use Rattle.sieve_script.specs.declared.reading.ValueSource.{ValueSource}
use Rattle.sieve_script.specs.view.Reading.{answered_by, body_by, date_zone_by, filed_by, source_by}
use Rattle.sieve_variables.specs.Part.{Part}

abbrev pub zone_ref_as : DateZone (Bor (List Part)) → reading.DateZone
zone_ref_as = date_zone_by (λ string. string.now)

abbrev pub body_ref_as : BodyTransform (List (List Part)) → reading.BodyTransform
body_ref_as = body_by (λ list. list)

abbrev pub source_ref_as : ValueSource (List (List Part)) (List (List Part)) (Bor (List Part)) → reading.ValueSource
source_ref_as = source_by (λ names. names) (λ list. list) (λ given. given) (λ string. string.now)

abbrev pub settings_ref_as : Settings (List (List Part)) (Bor (List Part)) → reading.Settings
settings_ref_as = filed_by (λ given. given) option_copied

abbrev pub vacation_ref_as : Vacation (List (List Part)) (Bor (List Part)) → reading.Vacation
vacation_ref_as = answered_by (λ string. string.now) (λ given. given) option_copied
