use Rattle.std.proofs.Common.{ℕ, List, slice_range, sym, ap, ◌∙◌}
use Rattle.std.proofs.lemmas.Bool.{ne_eqb}
use Rattle.match_text.specs.Comparator.{ascii_casemap, same}
use Rattle.message_text.specs.view.NameHash.{name_hash}
use Rattle.message_text.proofs.NameLemmas.{hashes_differ}
use Rattle.message_text.proofs.names.is_named.Goals as goal

pub returns-else-span-name : goal.returns-else-span-name
returns-else-span-name c =
    let span = c.args.span in
    let written = slice_range c.args.octets.now span.start span.name_end in
    let other = c.if-span-name.false in
    let hash = c.name.invariant ∙ ap name_hash c.name.view_is in
    ne_eqb span.name_hash c.name.inside.hash other
    ∙ sym (ap (λ (text : List ℕ). same ascii_casemap text c.args.name.now) c.requires.name
    ∙ hashes_differ written c.args.name.now (λ is. other (c.requires.hash ∙ is ∙ sym hash)))
