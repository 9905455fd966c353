-- How the lines of a verdict are put together from their pieces.
use Rattle.std.proofs.Common.{◌≡◌, ℕ, zero, suc, ◌<◌, ◌+◌, List, [], ◌∷◌, ◌++◌, length, take, get_or, slice_get, sym, ap, ◌∙◌, append-nil, append_assoc, Some, codes, decimal}
use Rattle.std.proofs.lemmas.Grind.{flat_map-append}
use Rattle.std.proofs.lemmas.List.{take_more}
use Rattle.devices.specs.Writers.{name_text}
use Rattle.sieve_delivery.specs.ErrorKind.{error_word}
use Rattle.sieve_delivery.specs.declared.error.RunError.{RunError}
use Rattle.sieve_verdict.specs.Lines.{error_line, spaced_word, spaced_words}

-- the line of an error, piece by piece
pub error_pieces : (error : RunError) (word : List ℕ) → word ≡ error_word error.kind → error_line error ≡ codes "error " ++ (name_text error.script ++ (codes " line " ++ (decimal error.line ++ (codes " " ++ (word ++ [])))))
unfolding error_line
error_pieces error word is = rw (is, append-nil (error_word error.kind)) (simp append_assoc)

-- The text that is found at a place is the text at that place in the list. So both give the same
-- word after a space.
pub text_at : (texts : List (List ℕ)) (i : ℕ) (text : List ℕ) → slice_get texts i ≡ Some text → text ≡ get_or texts i text
text_at [] i text at = cc
text_at (x ∷ xs) zero text at = cc
text_at (x ∷ xs) (suc i) text at = text_at xs i text at

pub text_there : (texts : List (List ℕ)) (i : ℕ) (text : List ℕ) → slice_get texts i ≡ Some text → spaced_word text ≡ spaced_word (get_or texts i text)
text_there texts i text at = ap spaced_word (text_at texts i text at)

-- The words of the texts before a place and the word of the text there, joined. They are the words
-- of the texts before the next place.
pub texts_more : (texts : List (List ℕ)) (i : ℕ) (text : List ℕ) → i < length texts → slice_get texts i ≡ Some text → spaced_words (take i texts) ++ spaced_word text ≡ spaced_words (take (i + 1) texts)
texts_more texts i text below at =
    ap (λ t. spaced_words (take i texts) ++ t) (text_there texts i text at)
    ∙ sym (ap spaced_words (take_more texts i text below) ∙ flat_map-append spaced_word (take i texts) (get_or texts i text ∷ [])
    ∙ ap (λ t. spaced_words (take i texts) ++ t) (append-nil (spaced_word (get_or texts i text))))
