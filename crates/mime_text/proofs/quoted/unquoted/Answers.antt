use Rattle.std.proofs.Common.{◌++◌, List, ℕ, sym, ap, ◌∙◌, arith}
use Rattle.std.proofs.lemmas.List.{append-nil}
use Rattle.mime_text.proofs.Quoting.{nothing_quoted}
use Rattle.mime_text.proofs.quoted.unquoted.Goals as goal

pub returns : goal.returns
returns c =
    let done = c.loop-left.octets.items in
    sym (append-nil done) ∙ ap (λ (rest : List ℕ). done ++ rest) (sym (nothing_quoted c.loop-left.left.now (omega arith))) ∙ c.loop-left.invariant
