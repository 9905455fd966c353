-- The relations of `:value` and `:count` (RFC 5231, section 4): their words, and the orders in
-- which each holds.
use Rattle.std.specs.Prelude.{ℕ, Bool, if◌then◌else◌, List, Option, Some, None, codes}
use Rattle.std.specs.declared.cmp.Ordering.{Ordering}
use Rattle.std.specs.Ordering.{is_eq, is_ge, is_gt, is_le, is_lt, is_ne}
use Rattle.std.specs.Str.{str_eq_ignore_ascii_case}
use Rattle.match_text.specs.declared.relation.Relation.{Relation}
use Rattle.match_text.specs.declared.relation.Relation.TheVariants.{Gt, Ge, Lt, Le, Eq, Ne}

-- the word of a relation
abbrev pub relation_word : Relation → List ℕ
relation_word Gt = codes "gt"
relation_word Ge = codes "ge"
relation_word Lt = codes "lt"
relation_word Le = codes "le"
relation_word Eq = codes "eq"
relation_word Ne = codes "ne"

-- whether a word is that of a relation, in any case of letters, as in ABNF (RFC 5234, 2.3)
abbrev pub is_word_of : Relation → List ℕ → Bool
is_word_of relation word = str_eq_ignore_ascii_case (relation_word relation) word

-- the relation of that word
abbrev pub relation_named : List ℕ → Option Relation
relation_named word =
    if is_word_of Gt word then Some Gt else
    if is_word_of Ge word then Some Ge else
    if is_word_of Lt word then Some Lt else
    if is_word_of Le word then Some Le else
    if is_word_of Eq word then Some Eq else
    if is_word_of Ne word then Some Ne else None

-- whether a relation holds of two things, by the order of the first to the second
abbrev pub stands_in : Relation → Ordering → Bool
stands_in Gt order = is_gt order
stands_in Ge order = is_ge order
stands_in Lt order = is_lt order
stands_in Le order = is_le order
stands_in Eq order = is_eq order
stands_in Ne order = is_ne order
