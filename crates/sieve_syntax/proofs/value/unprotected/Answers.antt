use Rattle.std.proofs.Common.{◌++◌, ◌+◌, drop, get_or, sym, ap, ◌∙◌, append_assoc, append-nil}
use Rattle.sieve_syntax.specs.Value.{is_protector, kept_octet}
use Rattle.sieve_syntax.proofs.Values.{kept_of, kept-more, kept-end}
use Rattle.sieve_syntax.proofs.value.unprotected.Goals as goal

pub loop-octet-preserved : goal.loop-octet-preserved
loop-octet-preserved c =
    let octets = c.args.octets.now in
    let i = c.loop-octet.octet-index in
    let kept = c.loop-octet.kept.items in
    let protected = c.loop-octet.protected in
    let octet = get_or octets i 0 in
    ap (λ x. x ++ kept_of c.in_ok-protected.protected (drop (i + 1) octets)) c.in_ok-protected.ensures.kept
    ∙ ap (λ p. (kept ++ kept_octet protected octet) ++ kept_of p (drop (i + 1) octets)) c.in_ok-protected.ensures.protects
    ∙ append_assoc kept (kept_octet protected octet) (kept_of (is_protector protected octet) (drop (i + 1) octets))
    ∙ ap (λ x. kept ++ x) (sym (kept-more octets i protected c.loop-octet-test.true))
    ∙ c.loop-octet.invariant

pub returns : goal.returns
returns c =
    let kept = c.loop-octet.kept.items in
    sym (append-nil kept) ∙ ap (λ x. kept ++ x) (sym (kept-end c.args.octets.now c.loop-octet.octet-index c.loop-octet.protected c.loop-octet-test.false)) ∙ c.loop-octet.invariant
