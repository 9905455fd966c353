use Rattle.std.proofs.Common.{◌++◌, encode_utf8, ap, ◌∙◌, arith}
use Rattle.std.specs.String.{string_bytes}
use Rattle.charsets.proofs.Utf8.{latin_step}
use Rattle.charsets.proofs.charset.latin.Goals as goal

pub loop-octet-preserved : goal.loop-octet-preserved
loop-octet-preserved c =
    latin_step c.args.octets.now _ _ c.loop-octet.octet-index (omega arith) c.loop-octet.invariant
    (c.in_ok-push.ensures.bytes ∙ ap (λ character. string_bytes c.loop-octet.text ++ encode_utf8 character) c.from.ensures)
