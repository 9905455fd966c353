use Rattle.std.proofs.Common.{◌≡◌, ◌+◌, ◌++◌, drop, ap, ◌∙◌}
use Rattle.std.proofs.lemmas.List.{drop-drop}
use Rattle.match_text.specs.view.Segment.{texts_of}
use Rattle.match_text.proofs.Taking.{other_passed, question_taken}
use Rattle.match_text.proofs.wildcards.push_questions.Goals as goal
use Rattle.match_text.proofs.wildcards.push_questions.Goals.{in-Question+in_ok-push, in_default}

pub loop-item-preserved : goal.loop-item-preserved
loop-item-preserved c =
    let i = c.loop-item.item-index in
    let segment = c.args.segment.now in
    let old = c.loop-item.texts.items in
    let back : c.split_at.result.1.now ≡ drop (i + 1) c.args.value.now =
    c.split_at.ensures.back ∙ ap (drop 1) c.loop-item.invariant.rest ∙ drop-drop 1 i c.args.value.now in
    elim c.match-item.branch [
      | in-Question+in_ok-push w ↦ record {
        rest = rw w.rest-is back;
        taken = rw (w.texts-is, w.rest-is, w.in_ok-push.ensures.items, c.split_at.ensures.back)
            (question_taken old c.split_at.result.0 segment i c.loop-item.rest.now c.loop-item-test.true w.in-Question.is c.split_at.ensures.front ∙ c.loop-item.invariant.taken);
      }
      | in_default w ↦ record {
        rest = rw w.rest-is back;
        taken = rw (w.texts-is, w.rest-is, c.split_at.ensures.back)
            (ap (λ texts. texts_of old ++ texts) (other_passed segment i c.loop-item.rest.now c.loop-item-test.true w.in_default.not-Question) ∙ c.loop-item.invariant.taken);
      }
    ]
