use Rattle.std.proofs.Common.{◌≡◌, filter, rules, ap, ◌∙◌}
use Rattle.indexmap.proofs.CallerLemmas.{filter-RetainsPairs}
use Rattle.named_list.specs.Slots.{entries_of, is_name}
use Rattle.named_list.proofs.Entries.{filter-entries, filter-filled, filter-gaps}
use Rattle.named_list.proofs.list.close_gaps.Goals as goal

pub returns-then-gaps-gt0-clause-entries : goal.returns-then-gaps-gt0-clause-entries
returns-then-gaps-gt0-clause-entries g c =
    ap entries_of (filter-RetainsPairs _ (λ s. is_name s.0) _ (λ k v b w f t. search rules) _ _ c.retain.ensures.filtered) ∙ filter-entries c.args.slots.now.entries

pub returns-then-gaps-gt0-clause-filled : goal.returns-then-gaps-gt0-clause-filled
returns-then-gaps-gt0-clause-filled g c =
    rw (filter-RetainsPairs _ (λ s. is_name s.0) _ (λ k v b w f t. search rules) _ _ c.retain.ensures.filtered) (filter-filled c.args.slots.now.entries c.requires.0, filter-gaps c.args.slots.now.entries)
