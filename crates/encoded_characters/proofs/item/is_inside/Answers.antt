use Rattle.std.proofs.Common.{sym, ◌∙◌}
use Rattle.encoded_characters.specs.Scan.{inside_of}
use Rattle.encoded_characters.specs.view.Sequence.{item_of}
use Rattle.encoded_characters.proofs.Items.{ended, refused}
use Rattle.encoded_characters.proofs.item.is_inside.Goals as goal

pub returns-then-not-is_item : goal.returns-then-not-is_item
returns-then-not-is_item c =
    refused c.args.hex c.args.inside.now c.loop-item.left.now (item_of c.in-Some.item) (inside_of c.in-Some.rest.now) c.in-Some.ensures.is (sym c.is_item.ensures ∙ c.if-not-is_item.true) c.loop-item.invariant.each

pub returns-then-any : goal.returns-then-any
returns-then-any c =
    c.are_blanks.ensures ∙ ended c.args.hex c.loop-item.any c.args.inside.now c.loop-item.left.now c.if-any.true c.in_default.ensures.is c.loop-item.invariant.any c.loop-item.invariant.each
