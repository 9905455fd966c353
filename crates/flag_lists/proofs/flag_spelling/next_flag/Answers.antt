use Rattle.std.proofs.Common.{◌≡◌, ◌∙◌, ◌∷◌, IfNone, List, Option, ap, subst}
use denote.Ref.{Bor}
use Rattle.std.proofs.Common.{ℕ}
use Rattle.flag_lists.specs.Flags.{pieces}
use Rattle.flag_lists.specs.view.Pieces.{pieces_after}
use Rattle.flag_lists.proofs.flag_spelling.next_flag.Goals as goal

pub last_flag-requires : goal.last_flag-requires
last_flag-requires c =
    let piece = c.next_piece.result.0.now in
    let alone : piece ≡ c.pieces.rest.now = subst (λ (after : Option (Bor (List ℕ))). IfNone after (piece ≡ c.pieces.rest.now)) c.in-None.is c.next_piece.ensures.alone in
    ap pieces alone ∙ c.next_piece.ensures.pieces ∙ ap (λ (after : Option (Bor (List ℕ))). piece ∷ pieces_after after) c.in-None.is
