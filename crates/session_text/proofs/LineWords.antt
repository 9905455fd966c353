-- The first words of lines.
use Rattle.std.proofs.Common.{◌≡◌, ℕ, List, [], ◌∷◌, is_some, codes, nat_eq}
use Rattle.std.specs.List.{list_any}
use lib.Pointwise.{pointwise}
use Rattle.octets.proofs.Both.{is_some_find}
use Rattle.session_text.specs.SessionLine.{is_kind, line_kind}
use Rattle.session_text.specs.contracts.line_kind.LineKind.{enum}
use Rattle.sieve_profile.specs.Every.{every}

pub lines_known : (word : List ℕ) → is_some (line_kind word) ≡ list_any (λ known. pointwise nat_eq known word)
    (codes "script" ∷ codes "message" ∷ codes "main" ∷ codes "no-main" ∷ codes "rename" ∷ codes "drop-script" ∷ codes "drop-message" ∷ codes "envelope" ∷ codes "mailbox" ∷ codes "report" ∷ codes "dump" ∷ codes "expect" ∷ codes "no-expect" ∷ codes "mailboxes" ∷ codes "message-envelope" ∷ codes "no-message-envelope" ∷ codes "clock" ∷ codes "no-clock" ∷ [])
lines_known word = is_some_find (is_kind word) (every enum tt)
