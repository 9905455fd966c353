use Rattle.std.proofs.Common.{◌≡◌, ◌+◌, ◌≤◌, length, not, take}
use Rattle.std.specs.List.{suffix_len}
use Rattle.octets.specs.Octet.{octet_of}
use Rattle.message_text.specs.Addresses.{is_free}
use Rattle.message_text.proofs.addressing.after_last_at.Given as goal

-- no free `@` stands among the marked octets from `after` on
abbrev pub invariant-loop-after : goal.invariant-loop-after
invariant-loop-after l =
    (l.after ≤ length l.marks) × (l.after + suffix_len (λ m. not (is_free (octet_of "@") m)) l.marks
    ≡ length l.marks + suffix_len (λ m. not (is_free (octet_of "@") m)) (take l.after l.marks))

abbrev pub decreases-loop-after : goal.decreases-loop-after
decreases-loop-after l = l.after
