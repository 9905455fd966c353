use Rattle.std.proofs.Common.{rules}
use Rattle.sieve_run.specs.view.Entry.{AreEntries, texts_of}
use Rattle.sieve_run.proofs.shelf.Shelf.new.Goals as goal

pub returns : goal.returns
unfolding texts_of
returns c = search rules

pub invariant_of-result : goal.invariant_of-result
unfolding AreEntries
invariant_of-result c = search rules
