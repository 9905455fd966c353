use Rattle.std.proofs.Common.{sym, ◌∙◌, ap, arith}
use Rattle.std.proofs.lemmas.List.{take_rest}
use Rattle.match_text.specs.view.Segment.{begins}
use Rattle.match_text.proofs.Standing.{end_found, end_missed, end_too_long}
use Rattle.match_text.proofs.segments.end_place.Goals as goal

pub returns-then-segment-text : goal.returns-then-segment-text
returns-then-segment-text c = end_too_long c.args.segment.now c.args.text.now (omega arith)

pub returns-then-begins : goal.returns-then-begins
returns-then-begins c =
    end_found c.args.segment.now c.args.text.now (omega arith)
    (sym (ap (begins c.args.segment.now) (take_rest c.args.text.now _)) ∙ sym c.begins.ensures ∙ c.if-begins.true)

pub returns-else-begins : goal.returns-else-begins
returns-else-begins c =
    end_missed c.args.segment.now c.args.text.now (omega arith)
    (sym (ap (begins c.args.segment.now) (take_rest c.args.text.now _)) ∙ sym c.begins.ensures ∙ c.if-begins.false)
