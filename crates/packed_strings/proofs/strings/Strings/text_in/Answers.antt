use Rattle.std.proofs.Common.{◌+◌, ◌∷◌, List, ℕ, ap, drop, map, sym, ◌∙◌}
use Rattle.std.proofs.lemmas.Result.{IfOk-weaker}
use Rattle.sieve_variables.specs.Value.{text_value}
use Rattle.packed_strings.proofs.Joining.{drop_at, get_map}
use Rattle.packed_strings.proofs.strings.Strings.text_in.Goals as goal

pub returns : goal.returns
returns c =
    let i = c.args.i in let value = text_value c.args.values.now in let string = c.get.result.now in
    let texts = map value c.args.self.now in
    let left = drop_at texts i (value string) (get_map value c.args.self.now i string c.get.ensures) in
    IfOk-weaker c.expanded_in.result _ _ (λ octets so. left ∙ ap (λ (text : List ℕ). text ∷ drop (i + 1) texts) (sym so)) c.expanded_in.ensures.octets
