use Rattle.octets.specs.Octet.{is_filled}
use Rattle.std.proofs.Common.{◌≡◌, ◌++◌, false, true, List, [], slice_range, drop, map, sym, ap, ◌∙◌, append_assoc, arith}
use Rattle.std.specs.Str.Lines.{lines}
use Rattle.std.proofs.lemmas.List.{drop_all}
use Rattle.message_text.specs.Fields.{Group, field_groups}
use Rattle.message_text.specs.view.Spans.{field_here, group_at}
use Rattle.message_text.proofs.GroupLemmas.{are_spans, field_groups-end, field_groups-first, field_groups-nil, none_after, none_first, slice-empty, slice-filled}
use Rattle.message_text.proofs.fields.spans_of.Goals.{else-loop-start-test, then-loop-start-test+then-line-start}
use Rattle.message_text.proofs.fields.spans_of.Goals as goal

pub loop-start-preserved : goal.loop-start-preserved
loop-start-preserved c =
    let octets = c.args.octets.now in
    let start = c.loop-start.start in
    let end = c.line_at-line.result.end in
    let next = c.line_at-line.result.next in
    let line = slice_range octets start end in
    let so_far = map (group_at octets) c.loop-start.spans.items in
    let here = field_here line (lines (drop next octets)) in
    let others = field_groups (drop next octets) in
    let filled = slice-filled octets start end (omega arith) c.line_at-line.ensures.end_within in (
      ap (λ (found : List Group). found ++ others) c.in_ok-push_span.ensures.groups ∙ append_assoc so_far here others
          ∙ ap (λ (rest : List Group). so_far ++ rest) (sym (field_groups-first (drop start octets) (drop next octets) line c.line_at-line.ensures.first filled))
          ∙ c.loop-start.invariant.0,
      c.in_ok-push_span.ensures.each c.loop-start.invariant.1,
    )

pub returns-clause-spans : goal.returns-clause-spans
returns-clause-spans c =
    let octets = c.args.octets.now in
    let start = c.loop-start.start in
    let none : field_groups (drop start octets) ≡ [] =
    elim c.loop-start-test.branch [
      | else-loop-start-test w ↦ ap field_groups (drop_all start octets (omega arith)) ∙ field_groups-nil
      | then-loop-start-test+then-line-start w ↦
          field_groups-end (drop start octets) (slice_range octets start w.line_at-line.result.end) _ w.line_at-line.ensures.first
          (ap (λ end. is_filled (slice_range octets start end)) w.if-line-start.true ∙ slice-empty octets start)
    ] in
    are_spans octets c.loop-start.spans.items start c.loop-start.invariant.0 none c.loop-start.invariant.1

pub returns-in_err-push_span-clause-no_field : goal.returns-in_err-push_span-clause-no_field
returns-in_err-push_span-clause-no_field c = λ none.
    let octets = c.args.octets.now in
    let start = c.loop-start.start in
    let end = c.line_at-line.result.end in
    let next = c.line_at-line.result.next in
    let line = slice_range octets start end in
    let so_far = map (group_at octets) c.loop-start.spans.items in
    let here = field_here line (lines (drop next octets)) in
    let others = field_groups (drop next octets) in
    let filled = slice-filled octets start end (omega arith) c.line_at-line.ensures.end_within in
    let left : field_groups (drop start octets) ≡ [] = none_after so_far _ (c.loop-start.invariant.0 ∙ none) in
    let both : here ++ others ≡ [] = sym (field_groups-first (drop start octets) (drop next octets) line c.line_at-line.ensures.first filled) ∙ left in
    let refused : false ≡ true = c.in_err-push_span.ensures.no_field (none_first here others both) in
    cc
