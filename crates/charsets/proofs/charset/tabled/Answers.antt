use Rattle.std.proofs.Common.{List, ℕ, drop, ap, ◌∙◌}
use Rattle.charsets.proofs.Tabled.{all_left, with_left}
use Rattle.charsets.proofs.charset.tabled.Goals as goal

pub loop-octet-init : goal.loop-octet-init
loop-octet-init c =
    let table = c.args.table.now in
    let octets = c.args.octets.now in
    ap (λ (one : List ℕ). with_left table one (drop 0 octets)) c.new-text.ensures.bytes ∙ all_left table octets
