use Rattle.std.proofs.Common.{◌∙◌, ap, sym}
use Rattle.match_text.specs.Comparator.{ascii_casemap, same}
use Rattle.flag_lists.specs.Flags.{has_key}
use Rattle.flag_lists.proofs.Finding.{has_key-folded}
use Rattle.flag_lists.proofs.flags.FlagList.has_in_any_case.Goals as goal

pub returns : goal.returns
returns c =
    let key = c.args.key.now in
    c.contains.ensures ∙ sym (has_key-folded c.self.inside.flags.keys key) ∙ ap (λ l. has_key (same ascii_casemap) l key) c.self.view_is
