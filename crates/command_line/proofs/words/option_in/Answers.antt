-- The value of an option is the first value in the row of its name. It is missing where that is.
use Rattle.std.proofs.Common.{◌∙◌, Some, Bor, sym, ap, option_map}
use Rattle.clap.specs.Matches.{found_of}
use Rattle.clap.specs.Walk.{Text}
use Rattle.clap.proofs.WalkLemmas.{first_value-rows}
use Rattle.command_line.proofs.words.option_in.Goals as goal

pub returns-in_ok-copied-in-Some : goal.returns-in_ok-copied-in-Some
returns-in_ok-copied-in-Some c =
    let met = ap (option_map (λ (s : Bor Text). s.now)) (sym c.in-Some.is) ∙ c.get_str.ensures ∙ first_value-rows (found_of c.args.matches.now) _ in
    ap (λ (t : Text). Some t) c.in_ok-copied-in-Some.ensures ∙ met

pub returns-in-None : goal.returns-in-None
returns-in-None c =
    ap (option_map (λ (s : Bor Text). s.now)) (sym c.in-None.is) ∙ c.get_str.ensures ∙ first_value-rows (found_of c.args.matches.now) _
