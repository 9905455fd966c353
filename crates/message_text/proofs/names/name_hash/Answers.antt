use Rattle.std.proofs.Common.{ℕ, List, map, ap, ◌∙◌}
use Rattle.std.specs.List.{fold}
use Rattle.std.proofs.lemmas.List.{take_all}
use Rattle.match_text.specs.Comparator.{ascii_casemap}
use Rattle.message_text.specs.view.NameHash.{name_hash, with_octet}
use Rattle.message_text.proofs.names.name_hash.Goals as goal

pub returns : goal.returns
unfolding name_hash
returns c =
    c.loop-octet.invariant
    ∙ ap (λ (text : List ℕ). fold with_octet 0 (map ascii_casemap text)) (take_all c.loop-octet.octet-index c.args.name.now c.loop-octet-test.false)
