use Rattle.std.proofs.Common.{◌∙◌, ap, sym}
use Rattle.std.specs.Option.{option_copied}
use Rattle.match_text.specs.Comparator.{octet, same}
use Rattle.flag_lists.specs.Flags.{has_key}
use Rattle.flag_lists.proofs.Finding.{has_key-found, none_has}
use Rattle.flag_lists.proofs.flags.FlagList.has_spelling.Goals as goal

pub returns-in-Some : goal.returns-in-Some
returns-in-Some c =
    let flags = c.self.inside.flags.keys in let key = c.args.key.now in
    c.is.ensures.exact ∙ ap (λ v. same octet v key) c.as_slice.ensures
    ∙ sym (has_key-found flags key c.in-Some.flag.now c.self.invariant (sym c.get.ensures.key ∙ ap option_copied c.in-Some.is))
    ∙ ap (λ l. has_key (same octet) l key) c.self.view_is

pub returns-in-None : goal.returns-in-None
returns-in-None c =
    let key = c.args.key.now in
    none_has c.self.inside.flags.keys key (sym c.get.ensures.key ∙ ap option_copied c.in-None.is)
    ∙ ap (λ l. has_key (same octet) l key) c.self.view_is
