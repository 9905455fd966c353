-- The value of a required argument is the first value in the row of its name. It is empty where
-- that is missing.
use Rattle.std.proofs.Common.{◌≡◌, ◌∙◌, [], Option, Some, None, Bor, refl, ap, option_map, unwrap_or}
use Rattle.std.proofs.lemmas.Result.{IfOk-weaker}
use Rattle.clap.specs.Matches.{found_of}
use Rattle.clap.specs.Walk.{Text}
use Rattle.clap.proofs.WalkLemmas.{first_value-rows}
use Rattle.command_line.proofs.words.required_in.Goals as goal

text_or : (text : Option (Bor Text)) (other : Bor Text) → (unwrap_or text other).now ≡ unwrap_or (option_map (λ s. s.now) text) other.now
text_or None other = refl
text_or (Some text) other = refl

pub returns : goal.returns
returns c =
    let value = ap (λ (t : Option Text). unwrap_or t []) (c.get_str.ensures ∙ first_value-rows (found_of c.args.matches.now) _) in
    IfOk-weaker c.copied.result _ _ (λ script is. is ∙ ap (λ (s : Bor Text). s.now) c.unwrap_or.ensures ∙ text_or c.get_str.result _ ∙ value) c.copied.ensures
