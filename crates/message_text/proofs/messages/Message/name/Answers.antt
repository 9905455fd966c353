use Rattle.std.proofs.Common.{ℕ, List, Some, slice_get, sym, ap, ◌∙◌}
use Rattle.message_text.specs.Fields.{names_of}
use Rattle.message_text.proofs.FieldLemmas.{name_is}
use Rattle.message_text.proofs.messages.Message.name.Goals as goal

pub returns : goal.returns
returns c =
    let octets = c.as_slice-octets.result.now in
    let is = sym (c.as_slice-octets.ensures.value ∙ c.self.view_is) in
    ap (λ (message : List ℕ). slice_get (names_of message) c.args.i) is
    ∙ name_is octets c.args.i _ c.span_in-span.ensures.group ∙ ap Some c.span_in-span.ensures.span.name
