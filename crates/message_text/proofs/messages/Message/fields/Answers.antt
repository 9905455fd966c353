use Rattle.std.proofs.Common.{◌≡◌, ℕ, List, length, vec_len, sym, ap, ◌∙◌, arith}
use Rattle.message_text.specs.Fields.{fields_of}
use Rattle.message_text.proofs.FieldLemmas.{spans_len}
use Rattle.message_text.proofs.messages.Message.fields.Goals as goal

pub returns : goal.returns
returns c =
    let spans = c.self.inside.fields in
    let len : vec_len spans ≡ length spans.items = omega (arith, spans.ok.0) in
    c.len.ensures ∙ len ∙ sym (spans_len c.self.inside.octets.items spans.items c.self.invariant.fields)
    ∙ ap (λ (message : List ℕ). length (fields_of message)) c.self.view_is
