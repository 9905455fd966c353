-- Texts that have octets.
use Rattle.octets.specs.Octet.{is_filled}
use Rattle.std.proofs.Common.{◌≡◌, ℕ, false, true, ◌==◌, suc, List, [], ◌∷◌, length, sym, arith}
use Rattle.std.proofs.lemmas.Bool.{lt-ltb}

pub filled : (text : List ℕ) → (length text == 0) ≡ false → is_filled text ≡ true
filled [] none = sym none
filled (b ∷ rest) some = lt-ltb 0 (suc (length rest)) (omega arith)
