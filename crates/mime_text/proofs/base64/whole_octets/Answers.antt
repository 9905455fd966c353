use Rattle.std.proofs.Common.{◌<◌, ◌∙◌, arith}
use Rattle.std.proofs.lemmas.List.Elements.{All-drop, All-take}
use Rattle.mime_text.proofs.Digits.{four_more}
use Rattle.mime_text.proofs.base64.whole_octets.Goals as goal

pub loop-rest-preserved : goal.loop-rest-preserved
loop-rest-preserved c =
    let ds = c.loop-rest.rest.now in (
      four_more c.loop-rest.octets.items _ ds (omega arith) c.in_ok-push_three.ensures ∙ c.loop-rest.invariant.0,
      All-take (λ d. d < 64) _ _ (All-drop (λ d. d < 64) 4 ds c.loop-rest.invariant.1),
    )
