-- How flags are compared and hashed, in any case of letters.
use Rattle.std.specs.Prelude.{ℕ, List}
use Rattle.std.specs.Cmp.{IsEquivalence, IsPartialEquivalence, on_equiv, nat_eq_equiv, partial_equiv_from_equiv, unsigned_Decides}
use Rattle.std.specs.Cmp.Lexicographic.{lists_equiv}
use Rattle.std.specs.Hash as fed
use Rattle.match_text.specs.Comparator.{ascii_casemap, same}

-- the writes that a flag feeds a hasher: the number of its octets, and then the octets in upper
-- case
abbrev pub flag_hash : List ℕ → fed.HashWrites
flag_hash flag = fed.slice (λ b. fed.u8 (ascii_casemap b)) flag

pub same_equiv : IsEquivalence (same ascii_casemap)
same_equiv = lists_equiv (on_equiv ascii_casemap nat_eq_equiv)

pub same_per : IsPartialEquivalence (same ascii_casemap)
same_per = partial_equiv_from_equiv same_equiv

-- flags that are the same are hashed alike
pub same_alike : fed.Alike (same ascii_casemap) flag_hash
same_alike = fed.items_Alike (fed.on_Alike ascii_casemap (fed.same_Alike fed.u8 unsigned_Decides))
