use Rattle.std.proofs.Common.{◌≡◌, ◌<◌, nat_lt, false, ◌∷◌, drop, sym, ap, ◌∙◌, arith, rules, tests}
use Rattle.std.proofs.lemmas.Bool.Decides.{nat_tests}
use Rattle.std.proofs.lemmas.List.{take_rest}
use Rattle.octets.specs.Octet.{octet_of}
use Rattle.mime_text.specs.Lines.{end_len}
use Rattle.mime_text.specs.QuotedPrintable.{octets_of_pieces, pieces_of}
use Rattle.mime_text.proofs.Quoting.{escape_first, plain_first, sign_first, soft_first}
use Rattle.mime_text.proofs.quoted.next_piece.Goals as goal

pub returns-then-first-ne61-clause-is : goal.returns-then-first-ne61-clause-is
returns-then-first-ne61-clause-is c = plain_first c.args.first c.args.text.now (search (rules, tests))

pub returns-then-end-gt0-clause-is : goal.returns-then-end-gt0-clause-is
returns-then-end-gt0-clause-is c =
    let text = c.args.text.now in
    let is : c.args.first ≡ octet_of "=" = search (rules, tests) in
    let some : 0 < end_len text = omega (arith, c.end_len-end.ensures.is) in
    soft_first c.args.first text is some (omega (arith, c.end_len-end.ensures.is, c.end_len-end.ensures.within))
    ∙ ap (λ x. octets_of_pieces (pieces_of x)) (ap (λ n. drop n text) (sym c.end_len-end.ensures.is) ∙ sym (take_rest text c.end_len-end.result))

pub returns-in-Some-clause-is : goal.returns-in-Some-clause-is
returns-in-Some-clause-is c =
    let text = c.args.text.now in
    let is : c.args.first ≡ octet_of "=" = search (rules, tests) in
    let inner : nat_lt 0 (end_len text) ≡ false = grind (arith, nat_tests, c.end_len-end.ensures.is) in
    let found = c.in-Some.ensures in
    escape_first c.args.first text is c.in-Some.octet inner found.0 found.2
    ∙ ap (λ x. c.in-Some.octet ∷ octets_of_pieces (pieces_of x)) (sym found.1)

pub returns-in-None-clause-is : goal.returns-in-None-clause-is
returns-in-None-clause-is c =
    let text = c.args.text.now in
    let is : c.args.first ≡ octet_of "=" = search (rules, tests) in
    let inner : nat_lt 0 (end_len text) ≡ false = grind (arith, nat_tests, c.end_len-end.ensures.is) in
    sign_first c.args.first text is inner c.in-None.ensures
