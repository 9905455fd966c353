-- How an attempt to read went.
use Rattle.session_text.specs.declared.input.Filled.{Filled}
use Rattle.session_text.specs.declared.input.Filled.TheVariants.{More, Ended, Failed, Spent}

-- a fact for each way that a read may go
abbrev pub MatchFilled : Filled → Type 0 → Type 0 → Type 0 → Type 0 → Type 0
MatchFilled More P Q R S = P
MatchFilled Ended P Q R S = Q
MatchFilled Failed P Q R S = R
MatchFilled Spent P Q R S = S
