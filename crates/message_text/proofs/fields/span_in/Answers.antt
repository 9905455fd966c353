use Rattle.std.proofs.Common.{arith}
use Rattle.std.proofs.lemmas.Option.{slice_get-get_or}
use Rattle.message_text.proofs.FieldLemmas.{span_group, spans_len}
use Rattle.message_text.proofs.fields.span_in.Goals as goal

pub offset_bounds-spans-i : goal.offset_bounds-spans-i
offset_bounds-spans-i c =
    let len = spans_len c.args.octets.now c.args.spans.now c.requires.all in
    let within = c.requires.within in
    omega arith

pub bounds-spans-i : goal.bounds-spans-i
bounds-spans-i c =
    let len = spans_len c.args.octets.now c.args.spans.now c.requires.all in
    let within = c.requires.within in
    omega arith

pub returns-clause-group : goal.returns-clause-group
returns-clause-group c =
    let len = spans_len c.args.octets.now c.args.spans.now c.requires.all in
    let within = c.requires.within in
    span_group c.args.octets.now c.args.spans.now c.args.i _ c.requires.all (slice_get-get_or c.args.spans.now c.args.i _ (omega arith))

pub returns-clause-span : goal.returns-clause-span
returns-clause-span c =
    let len = spans_len c.args.octets.now c.args.spans.now c.requires.all in
    let within = c.requires.within in
    c.requires.all.each c.args.i _ (omega arith)
