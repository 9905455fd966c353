use Rattle.std.proofs.Common.{◌≡◌, ◌+◌, ◌≤◌, length, take}
use Rattle.std.specs.List.{suffix_len}
use Rattle.mime_text.specs.ContentType.{is_gap}
use Rattle.mime_text.proofs.content_type.trim_back.Given as goal

abbrev pub invariant-loop-end : goal.invariant-loop-end
invariant-loop-end l =
    (l.end ≤ length l.marks) × (l.end + suffix_len is_gap l.marks ≡ length l.marks + suffix_len is_gap (take l.end l.marks))

abbrev pub decreases-loop-end : goal.decreases-loop-end
decreases-loop-end l = l.end
