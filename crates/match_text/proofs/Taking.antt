-- The octets that the `?` of a segment take, one after another.
use Rattle.std.proofs.Common.{◌≡◌, ℕ, ◌+◌, ◌<◌, Bor, List, [], ◌∷◌, ◌++◌, length, get_or, take, drop, refl, sym, ◌∙◌, ap}
use Rattle.std.proofs.lemmas.List.{append_assoc, at_drop_more, map_push}
use Rattle.match_text.specs.view.Segment.{questions, texts_of}
use Rattle.match_text.specs.declared.pattern.Item.{Item}
use Rattle.match_text.specs.declared.pattern.Item.TheVariants.{Star, Question, Literal}

pub question_taken : (old : List (Bor (List ℕ))) (slice : Bor (List ℕ)) (segment : List Item) (i : ℕ) (rest : List ℕ) → i < length segment → get_or segment i Star ≡ Question → slice.now ≡ take 1 rest → texts_of (old ++ slice ∷ []) ++ questions (drop (i + 1) segment) (drop 1 rest) ≡ texts_of old ++ questions (drop i segment) rest
question_taken old slice segment i rest within is took =
    ap (λ texts. texts ++ questions (drop (i + 1) segment) (drop 1 rest)) (map_push (λ octets. octets.now) old slice)
    ∙ append_assoc (texts_of old) (slice.now ∷ []) (questions (drop (i + 1) segment) (drop 1 rest))
    ∙ ap (λ octets. texts_of old ++ octets ∷ questions (drop (i + 1) segment) (drop 1 rest)) took
    ∙ sym (ap (λ texts. texts_of old ++ texts)
    (at_drop_more (λ items. questions items rest) segment i Star within ∙ ap (λ item. questions (item ∷ drop (i + 1) segment) rest) is))

other_item : (item : Item) (segment : List Item) (rest : List ℕ) → (item ≡ Question → ⊥) → questions (item ∷ segment) rest ≡ questions segment (drop 1 rest)
other_item Star segment rest other = refl
other_item (Literal b) segment rest other = refl
other_item Question segment rest other = absurd (other refl)

pub other_passed : (segment : List Item) (i : ℕ) (rest : List ℕ) → i < length segment → (get_or segment i Star ≡ Question → ⊥) → questions (drop (i + 1) segment) (drop 1 rest) ≡ questions (drop i segment) rest
other_passed segment i rest within other =
    sym (at_drop_more (λ items. questions items rest) segment i Star within ∙ other_item (get_or segment i Star) (drop (i + 1) segment) rest other)
