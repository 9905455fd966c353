use Rattle.octets.specs.Octet.{octet_of}
use Rattle.std.proofs.Common.{◌≡◌, ℕ, ◌<◌, get_or}
use Rattle.session_text.proofs.line.find_lf.Given as goal

-- no octet so far is an LF
abbrev pub invariant-loop-i : goal.invariant-loop-i
invariant-loop-i l = (k : ℕ) → k < l.i → get_or l.octets k 0 ≡ octet_of "\n" → ⊥
