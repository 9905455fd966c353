-- White space (RFC 5228, 2.2 and 2.3).
use Rattle.std.specs.Prelude.{ℕ, Bool, false, ◌==◌, ◌&&◌, if◌then◌else◌, List, [], ◌∷◌, Option, Some, None, option_map}
use Rattle.std.proofs.Common.{suc}
use Rattle.octets.specs.Octet.{is_white, octet_of}
use Rattle.sieve_syntax.specs.Line.{line_length}

abbrev pub begins_with : ℕ → List ℕ → Bool
begins_with octet [] = false
begins_with octet (c ∷ cs) = c == octet

-- the number of octets up to the end of the first `*/`, for `bracket-comment` of
-- RFC 5228, section 8.1
unfoldable pub comment_length : List ℕ → Option ℕ
comment_length [] = None
comment_length (c ∷ cs) = if (c == octet_of "*") && begins_with (octet_of "/") cs then Some 2 else option_map suc (comment_length cs)

-- the number of octets of a bracket comment after its first octet
unfoldable pub bracket_comment : List ℕ → Option ℕ
bracket_comment [] = None
bracket_comment (c ∷ cs) = if c == octet_of "*" then option_map suc (comment_length cs) else None

-- How many octets of white space begin a text. They are one octet of white space (RFC 5228, 2.2), a
-- hash comment, or a bracket comment. A hash comment takes the rest of its line (RFC 5228, 2.3). A
-- bracket comment is from `/*` to the next `*/` after these two octets, and doesn't nest
-- (RFC 5228, 2.3).
unfoldable pub white_at : List ℕ → Option ℕ
white_at [] = None
white_at (c ∷ cs) =
    if is_white c then Some 1
    else (if c == octet_of "#" then Some (suc (line_length cs))
    else (if c == octet_of "/" then option_map suc (bracket_comment cs)
    else None))
