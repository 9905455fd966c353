use Rattle.std.proofs.Common.{◌≡◌, ◌∙◌, ap, false, refl, true}
use Rattle.message_text.specs.Fields.{field_groups}
use Rattle.message_text.proofs.GroupLemmas.{no_groups}
use Rattle.message_text.proofs.messages.Message.new.Goals as goal

pub returns-in-Ok-clause-ok : goal.returns-in-Ok-clause-ok
returns-in-Ok-clause-ok c = refl

pub returns-in-Err-clause-no_field : goal.returns-in-Err-clause-no_field
returns-in-Err-clause-no_field c = λ within none.
    let refused : false ≡ true = c.in-Err.ensures.no_field (ap field_groups c.deref.ensures.value ∙ no_groups c.args.bytes.items none) in
    cc
