use Rattle.std.proofs.Common.{◌≡◌, drop}
use Rattle.std.specs.String.{string_bytes}
use Rattle.charsets.specs.Charset.{tabled}
use Rattle.charsets.proofs.Tabled.{with_left}
use Rattle.charsets.proofs.charset.tabled.Given as goal

-- the text, and after it the rest in UTF-8, are all octets in UTF-8, if each stands for a character
abbrev pub invariant-loop-octet : goal.invariant-loop-octet
invariant-loop-octet l = with_left l.table (string_bytes l.text) (drop l.octet-index l.octets) ≡ tabled l.table l.octets
