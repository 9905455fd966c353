use Rattle.std.proofs.Common.{◌≡◌, ◌∙◌, [], ap, refl}
use Rattle.std.specs.List.{IsDistinct}
use Rattle.named_list.specs.Named.{Named}
use Rattle.bench.specs.declared.entry.MessageEntry.{MessageEntry}
use Rattle.bench.specs.view.Entry.{KeepsDue, messages_of, stale_of}
use Rattle.bench.proofs.bench.Bench.with_profile.Goals as goal

pub invariant_of-result : goal.invariant_of-result
unfolding KeepsDue IsDistinct
invariant_of-result c = let none : c.new-5.result.entries ≡ [] = ap (λ (list : Named MessageEntry). list.entries) c.new-5.ensures in rw none (tt, tt)

pub returns-clause-content : goal.returns-clause-content
unfolding messages_of
returns-clause-content c =
    let from : c.from_vec.result ≡ [] = c.from_vec.ensures ∙ c.new.ensures.items in
    let to : c.from_vec-2.result ≡ [] = c.from_vec-2.ensures ∙ c.new-2.ensures.items in
    let mailboxes : c.from_vec-3.result ≡ [] = c.from_vec-3.ensures ∙ c.new-3.ensures.items in
    let none : c.new-5.result.entries ≡ [] = ap (λ (list : Named MessageEntry). list.entries) c.new-5.ensures in
    rw (from, to, c.in_ok-copied.ensures, mailboxes, c.new-4.ensures, none) refl

pub returns-clause-stale : goal.returns-clause-stale
unfolding stale_of
returns-clause-stale c = let none : c.new-5.result.entries ≡ [] = ap (λ (list : Named MessageEntry). list.entries) c.new-5.ensures in rw none refl
