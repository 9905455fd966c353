use Rattle.std.proofs.Common.{sym, ◌∙◌}
use Rattle.flag_lists.proofs.Keywords.{filled}
use Rattle.flag_lists.proofs.flag_spelling.is_keyword.Goals as goal

pub returns-then-not-is_empty : goal.returns-then-not-is_empty
returns-then-not-is_empty c =
    rw (filled c.args.text.now (sym c.is_empty.ensures ∙ c.if-not-is_empty.true)) c.are_flag_octets.ensures
