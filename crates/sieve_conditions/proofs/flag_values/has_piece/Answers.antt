use Rattle.std.proofs.Common.{◌∙◌, ap, sym}
use Rattle.std.specs.List.{list_any}
use Rattle.flag_lists.specs.Flags.{has_key}
use Rattle.match_text.specs.Order.{are_equal}
use Rattle.sieve_conditions.proofs.Keyed.{any_alone, keys_of_empty, keys_of_filled}
use Rattle.sieve_conditions.proofs.flag_values.has_piece.Goals as goal

pub returns-then-is_empty : goal.returns-then-is_empty
returns-then-is_empty c =
    let among = has_key (are_equal c.args.collation) c.args.flags.now in
    c.has.ensures ∙ any_alone among c.args.key.now ∙ ap (list_any among) (sym (keys_of_empty c.args.key.now (sym c.is_empty.ensures ∙ c.if-is_empty.true)))

pub loop-piece-init : goal.loop-piece-init
loop-piece-init c = ap (list_any (has_key (are_equal c.args.collation) c.args.flags.now)) (keys_of_filled c.args.key.now (sym c.is_empty.ensures ∙ c.if-is_empty.false))
