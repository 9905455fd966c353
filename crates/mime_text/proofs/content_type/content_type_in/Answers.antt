use Rattle.std.proofs.Common.{◌≡◌, Bor, List, Ok, map, sym, ap, ◌∙◌, rules, tests}
use Rattle.std.specs.List.{slice_split}
use Rattle.std.specs.Option.{option_and_then}
use Rattle.std.proofs.lemmas.Iterator.Consumers.{map_from_collect}
use Rattle.std.proofs.lemmas.Iterator.Splits.{YieldsList-from_slice_split}
use Rattle.std.proofs.lemmas.Result.{IfOk-weaker}
use Rattle.std.specs.declared.alloc.AllocError.{AllocError}
use Rattle.octets.specs.Octet.{octet_of}
use Rattle.mime_text.specs.ContentType.{content_type_of, is_sign}
use Rattle.mime_text.specs.declared.marks.ValueMark.{ValueMark}
use Rattle.mime_text.specs.view.Marks.{marks_as}
use Rattle.mime_text.proofs.content_type.content_type_in.Goals as goal

pub returns : goal.returns
returns c =
    let test = is_sign (octet_of ";") in
    let marks = c.in-Some.marks.items in
    let pieces : map (λ (piece : Bor (List ValueMark)). piece.now) c.in_ok-pieces.pieces.items ≡ slice_split test marks =
    map_from_collect {E = AllocError} (Ok c.in_ok-pieces.pieces) c.in_ok-pieces.ensures.ran (YieldsList-from_slice_split _ test marks (c.split.ensures.rest ∙ c.deref.ensures.value) c.split.ensures.done c.split.ensures.closure (λ x b q k. search (rules, tests))) in
    IfOk-weaker c.content_type_of.result _ _
    (λ type is. is ∙ ap (λ (l : List (Bor (List ValueMark))). content_type_of (map (λ (piece : Bor (List ValueMark)). piece.now) l)) c.deref-2.ensures.value ∙ ap content_type_of pieces
    ∙ ap (option_and_then (λ marks. content_type_of (slice_split test marks))) (sym (sym c.in_ok-marks.ensures ∙ ap marks_as c.in-Some.is)))
    c.content_type_of.ensures
