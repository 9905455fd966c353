use Rattle.std.proofs.Common.{◌++◌, List, ℕ, sym, ap, ◌∙◌, arith}
use Rattle.std.proofs.lemmas.Bool.Decides.{nat_tests}
use Rattle.std.proofs.lemmas.List.{append-nil}
use Rattle.mime_text.proofs.Quoting.{nothing_padded}
use Rattle.mime_text.proofs.quoted.without_padding.Goals as goal

pub returns : goal.returns
returns c =
    let done = c.loop-rest.kept.items in
    sym (append-nil done) ∙ ap (λ (rest : List ℕ). done ++ rest) (sym (nothing_padded c.loop-rest.rest.now (grind (arith, nat_tests)))) ∙ c.loop-rest.invariant
