-- The computed cut of a text is the one cut.
use Rattle.std.proofs.Common.{◌≡◌, ℕ, zero, suc, List, [], ◌∷◌, ◌++◌, length, drop, Option, None, Some, refl, sym, ◌∙◌, ap, subst, length-append, arith}
use Rattle.std.proofs.Math.Seq.{drop-append_seam}
use Rattle.text_cut.specs.Cut.{Begins, Cuts, TextPiece, octet, sequence}
use Rattle.text_cut.specs.Scan.{FindsSequences, first_piece, further_octets, pieces_from, pieces_of}

-- the computed pieces, one by one
module _ {S : Type 0} (at : List ℕ → Option S) (further : S → ℕ) where
  pub pieces_from-drop : (skip : ℕ) (text : List ℕ) → pieces_from at further skip text ≡ pieces_of at further (drop skip text)
  unfolding pieces_from
  pieces_from-drop zero [] = refl
  pieces_from-drop (suc skip) [] = refl
  pieces_from-drop zero (c ∷ rest) = refl
  pieces_from-drop (suc skip) (c ∷ rest) = pieces_from-drop skip rest

  -- where no sequence is found, an octet stands alone
  pub pieces-octet : (c : ℕ) (rest : List ℕ) → at (c ∷ rest) ≡ None → pieces_of at further (c ∷ rest) ≡ octet c ∷ pieces_of at further rest
  unfolding pieces_from
  pieces-octet c rest none = ap (λ found. first_piece c found ∷ pieces_from at further (further_octets further found) rest) none

  -- where one is found, it stands before the pieces of the text after it
  pub pieces-sequence : (c : ℕ) (rest : List ℕ) (s : S) → at (c ∷ rest) ≡ Some s → pieces_of at further (c ∷ rest) ≡ sequence s ∷ pieces_of at further (drop (further s) rest)
  unfolding pieces_from
  pieces-sequence c rest s found =
      ap (λ found. first_piece c found ∷ pieces_from at further (further_octets further found) rest) found
      ∙ ap (λ pieces. sequence s ∷ pieces) (pieces_from-drop (further s) rest)

drop_front : (front rest : List ℕ) (n : ℕ) (text : List ℕ) → length front ≡ n → text ≡ front ++ rest → drop n text ≡ rest
drop_front front rest n text count is =
    ap (λ m. drop m text) (sym count) ∙ ap (drop (length front)) is ∙ drop-append_seam front rest

module _ {S : Type 0} {written : S → List ℕ} {Legal : S → Type 0} {at : List ℕ → Option S} {further : S → ℕ} (finds : FindsSequences written Legal at further) where
  -- the text after a sequence
  pub drop_further : (c : ℕ) (rest after : List ℕ) (s : S) → Legal s → c ∷ rest ≡ written s ++ after → drop (further s) rest ≡ after
  drop_further c rest after s legal is = drop_front (written s) after (suc (further s)) (c ∷ rest) (finds.count s legal) is

  none_step : (text : List ℕ) (found : Option S) → at text ≡ found → (Begins written Legal text → ⊥) → found ≡ None
  none_step text None is nowhere = refl
  none_step text (Some s) is nowhere =
      let begins = finds.is text s is in
      absurd (nowhere (record { first = s; rest = begins.0; legal = finds.legal text s is; is = begins.1 }))

  -- where no legal sequence begins, none is found
  pub not_found : (text : List ℕ) → (Begins written Legal text → ⊥) → at text ≡ None
  not_found text nowhere = none_step text (at text) refl nowhere

  -- where none is found, no legal sequence begins
  pub not_there : (text : List ℕ) → at text ≡ None → Begins written Legal text → ⊥
  not_there text none begins =
      let found = ap at begins.is ∙ finds.found begins.first begins.rest begins.legal in
      cc

  -- the pieces of a text that begins with a legal sequence
  pub pieces-written : (text rest : List ℕ) (s : S) → Legal s → text ≡ written s ++ rest → pieces_of at further text ≡ sequence s ∷ pieces_of at further rest
  pieces-written [] rest s legal is =
      let some = finds.count s legal in
      absurd (omega (arith, ap length is, length-append (written s) rest))
  pieces-written (c ∷ after) rest s legal is =
      pieces-sequence at further c after s (ap at is ∙ finds.found s rest legal)
      ∙ ap (λ one. sequence s ∷ pieces_of at further one) (drop_further c after rest s legal is)

  -- each cut of a text is the computed one
  pub cut_is : (pieces : List (TextPiece S)) (text : List ℕ) → Cuts written Legal pieces text → pieces ≡ pieces_of at further text
  unfolding pieces_from
  cut_is [] text is = ap (pieces_of at further) (sym is)
  cut_is (sequence s ∷ pieces) text (legal, rest, is, cut) =
      ap (λ after. sequence s ∷ after) (cut_is pieces rest cut) ∙ sym (pieces-written text rest s legal is)
  cut_is (octet c ∷ pieces) text (nowhere, rest, is, cut) =
      ap (λ after. octet c ∷ after) (cut_is pieces rest cut)
      ∙ sym (pieces-octet at further c rest (ap at (sym is) ∙ not_found text nowhere))
      ∙ ap (pieces_of at further) (sym is)

  cuts_step : (c : ℕ) (rest : List ℕ) (found : Option S) → at (c ∷ rest) ≡ found → Cuts written Legal (pieces_from at further (further_octets further found) rest) (drop (further_octets further found) rest) → Cuts written Legal (first_piece c found ∷ pieces_from at further (further_octets further found) rest) (c ∷ rest)
  cuts_step c rest None is cut = (not_there (c ∷ rest) is, rest, refl, cut)
  cuts_step c rest (Some s) is cut =
      let legal = finds.legal (c ∷ rest) s is in
      let begins = finds.is (c ∷ rest) s is in
      (legal, begins.0, begins.1, subst (Cuts written Legal (pieces_from at further (further s) rest)) (drop_further c rest begins.0 s legal begins.1) cut)

  -- the computed pieces are a cut of the text
  pub cuts_from : (skip : ℕ) (text : List ℕ) → Cuts written Legal (pieces_from at further skip text) (drop skip text)
  unfolding pieces_from
  cuts_from zero [] = refl
  cuts_from (suc skip) [] = refl
  cuts_from zero (c ∷ rest) = cuts_step c rest (at (c ∷ rest)) refl (cuts_from (further_octets further (at (c ∷ rest))) rest)
  cuts_from (suc skip) (c ∷ rest) = cuts_from skip rest
