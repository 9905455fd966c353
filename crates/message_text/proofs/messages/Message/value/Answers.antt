use Rattle.std.proofs.Common.{ℕ, List, slice_get, subst, sym, ap, ◌∙◌}
use Rattle.std.specs.Cow.{cow_slice_items}
use Rattle.message_text.specs.Fields.{IsFolded, IsUnfolded, values_of}
use Rattle.message_text.proofs.FieldLemmas.{more_lines, one_line, some_octets, value_is}
use Rattle.message_text.proofs.messages.Message.value.Goals as goal

pub returns-clause-octets : goal.returns-clause-octets
returns-clause-octets c =
    let octets = c.as_slice-octets.result.now in
    let is = sym (c.as_slice-octets.ensures.value ∙ c.self.view_is) in
    let value = ap (λ (message : List ℕ). slice_get (values_of message) c.args.i) is ∙ value_is octets c.args.i _ c.span_in-span.ensures.group in
    rw value (some_octets c.value_at.result cow_slice_items _ c.value_at.ensures.octets)

pub returns-clause-unfolded : goal.returns-clause-unfolded
returns-clause-unfolded c =
    λ unfolded.
    let octets = c.as_slice-octets.result.now in
    let is = sym (c.as_slice-octets.ensures.value ∙ c.self.view_is) in
    let P : List ℕ → Type 0 = λ message. IsUnfolded message c.args.i in
    c.value_at.ensures.unfolded (one_line octets c.args.i _ c.span_in-span.ensures.group (subst P is unfolded))

pub returns-clause-folded : goal.returns-clause-folded
returns-clause-folded c =
    λ folded.
    let octets = c.as_slice-octets.result.now in
    let is = sym (c.as_slice-octets.ensures.value ∙ c.self.view_is) in
    let P : List ℕ → Type 0 = λ message. IsFolded message c.args.i in
    c.value_at.ensures.folded (more_lines octets c.args.i _ c.span_in-span.ensures.group (subst P is folded))
