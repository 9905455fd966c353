-- The octets that a session has yet to use, after a read.
use Rattle.std.proofs.Common.{◌≡◌, ℕ, ◌+◌, List, ◌++◌, take, drop, sym, ap, ◌∙◌, append_assoc, Option, None, Some}
use Rattle.std.specs.Io.KnownBytes.{Keeps, Consumes, prepend_known}
use Rattle.std.proofs.Math.Seq.{take-add}

-- a read changes nothing of the octets that are not used yet
pub unused-read : (pending after buffer : List ℕ) (before left : Option (List ℕ)) (used count : ℕ)
    → take used buffer ≡ pending → after ≡ take (used + count) buffer → Consumes before left (take count (drop used buffer)) → Keeps (prepend_known pending before) (prepend_known after left)
unused-read pending after buffer None left used count front grown read = tt
unused-read pending after buffer (Some xs) None used count front grown read = absurd read
unused-read pending after buffer (Some xs) (Some ys) used count front grown read =
    ap (λ l. l ++ ys) (grown ∙ take-add used count buffer ∙ ap (λ l. l ++ take count (drop used buffer)) front)
    ∙ append_assoc pending (take count (drop used buffer)) ys ∙ ap (λ l. pending ++ l) (sym read)
