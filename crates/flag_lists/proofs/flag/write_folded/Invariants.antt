use Rattle.std.proofs.Common.{◌≡◌, take, fold, flat_map}
use Rattle.std.specs.Hash as fed
use Rattle.match_text.specs.Comparator.{ascii_casemap}
use Rattle.flag_lists.proofs.flag.write_folded.Given as goal

-- since the loop began, the hasher was fed the octets so far in upper case
abbrev pub invariant-loop-octet : goal.invariant-loop-octet
invariant-loop-octet g l =
    l.state
    ≡ fold g.H.Hasher.write l.initial.state (flat_map (λ b. fed.u8 (ascii_casemap b)) (take l.octet-index l.octets))
