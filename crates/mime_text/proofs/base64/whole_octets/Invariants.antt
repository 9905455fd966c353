use Rattle.std.proofs.Common.{◌≡◌, ◌++◌, ◌<◌, length}
use Rattle.std.specs.List.{All}
use Rattle.mime_text.specs.Base64.{whole_octets}
use Rattle.mime_text.proofs.base64.whole_octets.Given as goal

abbrev pub invariant-loop-rest : goal.invariant-loop-rest
invariant-loop-rest l = (l.octets.items ++ whole_octets l.rest ≡ whole_octets l.digits) × All (λ d. d < 64) l.rest

abbrev pub decreases-loop-rest : goal.decreases-loop-rest
decreases-loop-rest l = length l.rest
