use Rattle.std.proofs.Common.{◌≡◌, map, length}
use Rattle.std.specs.Option.{option_map}
use Rattle.mime_text.specs.ContentType.{named_of, parameters_of}
use Rattle.mime_text.specs.view.ContentTypes.{named_as, over}
use Rattle.mime_text.proofs.content_type.named_of.Given as goal

-- the parameters so far and those of the pieces that are left are those of all pieces
abbrev pub invariant-loop-left : goal.invariant-loop-left
invariant-loop-left l =
    option_map (λ ps. over (named_as l.named) (named_of ps)) (parameters_of (map (λ piece. piece.now) l.left)) ≡ option_map named_of (parameters_of (map (λ piece. piece.now) l.pieces))

abbrev pub decreases-loop-left : goal.decreases-loop-left
decreases-loop-left l = length l.left
