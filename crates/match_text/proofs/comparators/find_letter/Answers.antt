use Rattle.std.proofs.Common.{◌==◌}
use Rattle.memchr.specs.Find.{is_byte2}
use Rattle.match_text.specs.Comparator.{ascii_casemap}
use Rattle.match_text.proofs.Letters.{IsFirstByte-alike, letter}
use Rattle.match_text.proofs.comparators.find_letter.Goals as goal

pub returns : goal.returns
returns c =
    let upper = c.to_ascii_uppercase.ensures.value in
    let lower = c.to_ascii_lowercase.ensures.value in
    let b = c.args.b in
    IsFirstByte-alike (is_byte2 c.to_ascii_uppercase.result c.to_ascii_lowercase.result) (λ x. ascii_casemap x == ascii_casemap b) (λ x. rw (upper, lower) (letter b x)) c.args.value.now c.memchr2.result c.memchr2.ensures
