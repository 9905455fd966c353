-- Worked rows of the laws about lines and their words.
use Rattle.std.proofs.Common.{◌≡◌, [], ◌∷◌, refl, inr, codes}
use Rattle.devices.specs.Writers.{quoted}
use Rattle.session_text.specs.LineOf.{IsLineOf, after_space, first_word, joined, no_words}

joined_row : joined (codes "main" ∷ codes "personal" ∷ quoted (codes "a b") ∷ []) ≡ codes "main personal \"a b\""
unfolding quoted
joined_row = refl

spaced_row : IsLineOf (quoted [] ∷ []) (codes " \"\"  ")
unfolding quoted
spaced_row = after_space (quoted [] ∷ []) (codes "\"\"  ") (first_word (quoted []) [] (codes " ") (inr ([], refl)) (after_space [] [] no_words))
