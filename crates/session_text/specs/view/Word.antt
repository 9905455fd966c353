-- The next part of a quoted word.
use Rattle.std.specs.Prelude.{ℕ, List, [], Option, None, Some}
use Rattle.session_text.specs.declared.word.Next.{Next}
use Rattle.session_text.specs.declared.word.Next.TheVariants as nexts

-- a fact for the end, one for an octet and the rest after it, and one for a wrong part
abbrev pub MatchNext : Next → Type 0 → (ℕ → List ℕ → Type 0) → Type 0 → Type 0
MatchNext nexts.End P Q R = P
MatchNext (nexts.Octet octet rest) P Q R = Q octet rest.now
MatchNext nexts.Wrong P Q R = R

-- the octets of a word, or no octets where it is none
abbrev pub octets_if_any : Option (List ℕ) → List ℕ
octets_if_any None = []
octets_if_any (Some octets) = octets
