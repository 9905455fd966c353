use Rattle.std.proofs.Common.{◌+◌, ◌-◌, ◌∷◌, ap, drop, length, take, ◌∙◌, sym, length-drop, arith}
use Rattle.std.proofs.lemmas.List.{take_all}
use Rattle.flag_lists.specs.Flags.{pieces}
use Rattle.flag_lists.proofs.Pieces.{pieces_none, pieces_some}
use Rattle.flag_lists.proofs.flag_spelling.next_piece.Goals as goal

pub returns-in-Some-clause-pieces : goal.returns-in-Some-clause-pieces
returns-in-Some-clause-pieces c =
    let text = c.args.text.now in
    let space = c.in-Some.space in
    let rest = drop (space + 1) text in
    pieces_some text space c.in-Some.ensures.0 c.in-Some.ensures.1
    ∙ ap (λ rest. take space text ∷ pieces rest) (sym (take_all (length text - (space + 1)) rest (omega (arith, length-drop (space + 1) text))))

pub returns-in-None-clause-pieces : goal.returns-in-None-clause-pieces
returns-in-None-clause-pieces c = pieces_none c.args.text.now c.in-None.ensures
