use Rattle.std.proofs.Common.{◌≡◌, encode_utf8_all, take}
use Rattle.std.specs.String.{string_bytes}
use Rattle.charsets.proofs.charset.latin.Given as goal

-- the text is the characters of the octets so far in UTF-8
abbrev pub invariant-loop-octet : goal.invariant-loop-octet
invariant-loop-octet l = string_bytes l.text ≡ encode_utf8_all (take l.octet-index l.octets)
