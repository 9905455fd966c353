use Rattle.std.proofs.Common.{◌≡◌, ℕ, ◌≤◌, Some, false, map, slice_get, sym, ap, ◌∙◌, arith}
use borrow.Author.Count.{below_more}
use Rattle.message_text.specs.Fields.{fields_of, is_field_named}
use Rattle.message_text.proofs.FieldLemmas.{spans_len}
use Rattle.message_text.proofs.NameLemmas.{named_at}
use Rattle.message_text.proofs.names.next_named.Goals as goal

pub span_in-requires-clause-within : goal.span_in-requires-clause-within
span_in-requires-clause-within c =
    let len = spans_len c.args.octets.now c.args.spans.now c.requires in
    omega arith

pub returns-then-is_named-clause-some : goal.returns-then-is_named-clause-some
returns-then-is_named-clause-some c =
    let len = spans_len c.args.octets.now c.args.spans.now c.requires in
    record {
      after = c.loop-i.auto.i;
      within = omega arith;
      is = named_at c.args.octets.now c.args.name.now c.loop-i.i _ c.span_in.ensures.group ∙ ap Some (sym c.is_named.ensures ∙ c.if-is_named.true);
      others = c.loop-i.invariant;
    }

pub loop-i-preserved : goal.loop-i-preserved
loop-i-preserved c =
    let fields = fields_of c.args.octets.now in
    let name = c.args.name.now in
    let here = named_at c.args.octets.now name c.loop-i.i _ c.span_in.ensures.group ∙ ap Some (sym c.is_named.ensures ∙ c.if-is_named.false) in
    let Other : ℕ → Type 0 = λ k. c.args.start ≤ k → slice_get (map (is_field_named name) fields) k ≡ Some false in
    λ k after below. below_more Other c.loop-i.i (λ j before from. c.loop-i.invariant j from before) (λ _. here) k below after

pub returns-clause-none : goal.returns-clause-none
returns-clause-none c =
    let len = spans_len c.args.octets.now c.args.spans.now c.requires in
    λ k after below. c.loop-i.invariant k after (omega arith)
