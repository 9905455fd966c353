-- The words of the option are those in the row of its name.
use Rattle.std.proofs.Common.{◌≡◌, ◌∙◌, List, [], Option, Some, Ok, Bor, unwrap_or, sym, ap, subst, codes}
use Rattle.std.specs.declared.result.Result.{Result}
use Rattle.clap.specs.Matches.{found_of}
use Rattle.clap.specs.Walk.{Text, all_of, rows_of}
use Rattle.clap.proofs.WalkLemmas.{raw_values-rows}
use Rattle.sieve_profile.specs.Profile.{empty_profile}
use Rattle.sieve_profile.specs.declared.profile.Profile as profiles
use Rattle.command_line.specs.Profiles.{Says, names_in, with_names}
use Rattle.command_line.proofs.profile.profile_in.Goals as goal

-- these words say the profile that a row with them says
by_row : (words : List Text) (row : Option (List Text)) (answer : Result profiles.Profile (Bor Text)) → Some words ≡ row
    → Says (with_names empty_profile (names_in words)) answer → Says (with_names empty_profile (names_in (unwrap_or row []))) answer
by_row words row answer is =
    let P : Option (List Text) → Type 0 = λ r. Says (with_names empty_profile (names_in (unwrap_or r []))) answer in
    subst P is

pub returns-in-Some : goal.returns-in-Some
returns-in-Some c =
    by_row _ (all_of (codes "with") (rows_of (found_of c.args.matches.now))) c.profile_by.result
    (c.in-Some.ensures ∙ raw_values-rows (found_of c.args.matches.now) (codes "with")) c.profile_by.ensures

pub returns-in-None : goal.returns-in-None
returns-in-None c =
    ap (λ (r : Option (List Text)). with_names empty_profile (names_in (unwrap_or r []))) (sym (c.in-None.ensures ∙ raw_values-rows (found_of c.args.matches.now) (codes "with")))
    ∙ ap Ok (sym c.new.ensures)
