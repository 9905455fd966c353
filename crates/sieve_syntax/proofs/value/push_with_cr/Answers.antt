use Rattle.octets.specs.Octet.{octet_of}
use Rattle.std.proofs.Common.{◌++◌, ◌+◌, ◌==◌, drop, get_or, sym, ap, ◌∙◌, append_assoc, append-nil}
use Rattle.sieve_syntax.specs.Value.{line_end, with_cr}
use Rattle.sieve_syntax.proofs.Values.{with_cr-more, with_cr-end}
use Rattle.sieve_syntax.proofs.value.push_with_cr.Goals as goal

pub loop-octet-preserved : goal.loop-octet-preserved
loop-octet-preserved c =
    let octets = c.args.octets.now in
    let i = c.loop-octet.octet-index in
    let out = c.loop-octet.out.items in
    let octet = get_or octets i 0 in
    let rest = with_cr (octet == octet_of "\r") (drop (i + 1) octets) in
    ap (λ x. x ++ rest) c.in_ok-push_octet.ensures
    ∙ append_assoc out (line_end c.loop-octet.after_cr octet) rest
    ∙ ap (λ x. out ++ x) (sym (with_cr-more octets i c.loop-octet.after_cr c.loop-octet-test.true))
    ∙ c.loop-octet.invariant

pub returns : goal.returns
returns c =
    let out = c.loop-octet.out.items in
    sym (append-nil out) ∙ ap (λ x. out ++ x) (sym (with_cr-end c.args.octets.now c.loop-octet.octet-index c.loop-octet.after_cr c.loop-octet-test.false)) ∙ c.loop-octet.invariant
