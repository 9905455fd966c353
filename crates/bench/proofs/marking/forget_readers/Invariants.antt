use Rattle.std.proofs.Common.{◌≡◌, length, nat_eq}
use Rattle.std.specs.List.{IsDistinct}
use Rattle.std.specs.Map.{keys_of}
use lib.Pointwise.{pointwise}
use Rattle.bench.specs.view.Entry.{unread}
use Rattle.bench.proofs.Entries.{so_far}
use Rattle.bench.proofs.marking.forget_readers.Given as goal

-- the messages up to the index were marked
abbrev pub invariant-loop-index : goal.invariant-loop-index
invariant-loop-index l = record {
  marked : l.messages.entries ≡ so_far (unread l.name) l.fn.messages.entries l.index;
  unique : IsDistinct (pointwise nat_eq) (keys_of l.fn.messages.entries);
  all : l.count ≡ length l.fn.messages.entries;
}
