use Rattle.std.proofs.Common.{take, ap, ◌∙◌}
use Rattle.message_text.proofs.SubaddressLemmas.{user_is}
use Rattle.message_text.proofs.addressing.user_in.Goals as goal

pub returns : goal.returns
returns c =
    let local_part = c.args.local.now in
    ap (λ n. take n local_part) c.unwrap_or-end.ensures ∙ user_is local_part c.memchr.result c.memchr.ensures
