-- Stretches of lines up to a delimiter, a closing line or the end.
use Rattle.std.proofs.Common.{◌≡◌, ℕ, ◌-◌, Bool, true, false, ◌==◌, cond, List, [], ◌∷◌, ◌++◌, length, take, None, Some, refl, sym, ap, ◌∙◌, append_assoc, length-append, arith}
use Rattle.std.specs.List.{concat, onto_first}
use Rattle.std.proofs.lemmas.List.{append-nil}
use Rattle.std.proofs.Math.Seq.{take-append_seam}
use Rattle.octets.specs.Octet.{octet_of}
use Rattle.mime_text.specs.Lines.{ended_lines, without_end}
use Rattle.mime_text.specs.Multipart.{Cut, MultipartEnding, BodyLine, BodyPart, closed_by, content_cut, cut_of, epilogue_of, epilogue_text, is_closing, is_delimiter, is_padded, nothing_cut, part_texts, prologue_text, stops, text_of, texts_of_parts}
use Rattle.mime_text.specs.declared.multipart.BoundaryKind.TheVariants as kind
use Rattle.mime_text.proofs.Cutting.{closed, delimited, inner}
use Rattle.mime_text.specs.view.Cuts.{Follows, IsBoundary, kind_of}

-- the lines of a text, joined, are the text

onto_joined : (c : ℕ) (lines : List (List ℕ)) → concat (onto_first c lines) ≡ c ∷ concat lines
onto_joined c [] = refl
onto_joined c (line ∷ more) = refl

pub joined_lines : (text : List ℕ) → concat (ended_lines text) ≡ text
unfolding ended_lines
joined_lines [] = refl
joined_lines (c ∷ rest) = by_test (c == octet_of "\n") ∙ ap (λ (x : List ℕ). c ∷ x) (joined_lines rest)
  where
    by_test : (b : Bool) → concat (cond b ((c ∷ []) ∷ ended_lines rest) (onto_first c (ended_lines rest))) ≡ c ∷ concat (ended_lines rest)
    by_test true = refl
    by_test false = onto_joined c (ended_lines rest)

-- the text before a rest
pub front_is : (front rest text : List ℕ) → front ++ rest ≡ text → take (length text - length rest) text ≡ front
front_is front rest text is =
    ap (λ (t : List ℕ). take (length t - length rest) t) (sym is)
    ∙ ap (λ n. take n (front ++ rest)) (let e : length (front ++ rest) - length rest ≡ length front = omega (arith, length-append front rest) in e)
    ∙ take-append_seam front rest

-- a line of the rest goes to the front
module _ (text rest line after : List ℕ) (split : take (length text - length rest) text ++ rest ≡ text) (joined : rest ≡ line ++ after) where
  parted : (take (length text - length rest) text ++ line) ++ after ≡ text
  parted = append_assoc (take (length text - length rest) text) line after ∙ ap (λ (l : List ℕ). take (length text - length rest) text ++ l) (sym joined) ∙ split

  pub front_more : take (length text - length after) text ≡ take (length text - length rest) text ++ line
  front_more = front_is (take (length text - length rest) text ++ line) after text parted

  pub split_more : take (length text - length after) text ++ after ≡ text
  split_more = ap (λ (l : List ℕ). l ++ after) front_more ∙ parted

-- KINDS OF LINES

delimits : (x y : Bool) → cond x kind.Delimiter (cond y kind.Closing kind.Inner) ≡ kind.Delimiter → x ≡ true
delimits true y is = refl
delimits false true is = absurd cc
delimits false false is = absurd cc

closes : (x y : Bool) → cond x kind.Delimiter (cond y kind.Closing kind.Inner) ≡ kind.Closing → (x ≡ false) × (y ≡ true)
closes true y is = absurd cc
closes false true is = (refl, refl)
closes false false is = absurd cc

neither : (x y : Bool) → cond x kind.Delimiter (cond y kind.Closing kind.Inner) ≡ kind.Inner → (x ≡ false) × (y ≡ false)
neither true y is = absurd cc
neither false true is = absurd cc
neither false false is = (refl, refl)

module _ (boundary delimiter closing : List ℕ) (made : IsBoundary boundary delimiter closing) (line : BodyLine) where
  as_delimiter : is_delimiter boundary line ≡ is_padded delimiter line
  as_delimiter = ap (λ t. is_padded t line) (sym made.0)

  as_closing : is_closing boundary line ≡ is_padded closing line
  as_closing = ap (λ t. is_padded t line) (sym made.1)

  module _ (after rest : List ℕ) (first : ended_lines rest ≡ line ∷ ended_lines after) where
    cut_at_delimiter : kind_of delimiter closing line ≡ kind.Delimiter → content_cut boundary rest
        ≡ record { prologue = []; parts = record { delimiter = line; lines = (content_cut boundary after).prologue } ∷ (content_cut boundary after).parts; ending = (content_cut boundary after).ending }
    cut_at_delimiter is = ap (cut_of boundary) first ∙ delimited boundary line (ended_lines after) (as_delimiter ∙ delimits _ _ is)

    cut_at_closing : kind_of delimiter closing line ≡ kind.Closing → content_cut boundary rest ≡ record { prologue = []; parts = []; ending = closed_by line (ended_lines after) }
    cut_at_closing is = ap (cut_of boundary) first ∙ closed boundary line (ended_lines after) (as_delimiter ∙ (closes _ _ is).0) (as_closing ∙ (closes _ _ is).1)

    cut_at_inner : kind_of delimiter closing line ≡ kind.Inner
        → content_cut boundary rest ≡ record { prologue = line ∷ (content_cut boundary after).prologue; parts = (content_cut boundary after).parts; ending = (content_cut boundary after).ending }
    cut_at_inner is = ap (cut_of boundary) first ∙ inner boundary line (ended_lines after) (as_delimiter ∙ (neither _ _ is).0) (as_closing ∙ (neither _ _ is).1)

    -- STRETCHES

    module _ (front text : List ℕ) (follows : Follows boundary front text rest) where
      pub one_more : kind_of delimiter closing line ≡ kind.Inner → Follows boundary (front ++ line) text after
      one_more is = record {
        prologue = follows.prologue ∙ ap (λ (c : Cut). front ++ concat c.prologue) (cut_at_inner is) ∙ sym (append_assoc front line (concat (content_cut boundary after).prologue));
        parts = follows.parts ∙ ap (λ (c : Cut). c.parts) (cut_at_inner is);
        ending = follows.ending ∙ ap (λ (c : Cut). c.ending) (cut_at_inner is);
      }

      pub stretch_before_delimiter : kind_of delimiter closing line ≡ kind.Delimiter → without_end front ≡ prologue_text (content_cut boundary text)
      stretch_before_delimiter is =
          let parts = follows.parts ∙ ap (λ (c : Cut). c.parts) (cut_at_delimiter is) in
          let whole : concat (content_cut boundary text).prologue ≡ front = follows.prologue ∙ ap (λ (c : Cut). front ++ concat c.prologue) (cut_at_delimiter is) ∙ append-nil front in
          ap without_end (sym whole) ∙ ap (λ (ps : List BodyPart). text_of (stops ps (content_cut boundary text).ending) (content_cut boundary text).prologue) (sym parts)

      pub stops_at_delimiter : kind_of delimiter closing line ≡ kind.Delimiter
          → (part_texts (content_cut boundary text) ≡ prologue_text (content_cut boundary after) ∷ part_texts (content_cut boundary after)) × (epilogue_text (content_cut boundary text) ≡ epilogue_text (content_cut boundary after))
      stops_at_delimiter is =
          let parts = follows.parts ∙ ap (λ (c : Cut). c.parts) (cut_at_delimiter is) in
          let ending : (content_cut boundary text).ending ≡ (content_cut boundary after).ending = follows.ending ∙ ap (λ (c : Cut). c.ending) (cut_at_delimiter is) in (
            ap (λ (ps : List BodyPart). texts_of_parts ps (content_cut boundary text).ending) parts ∙ ap (texts_of_parts (record { delimiter = line; lines = (content_cut boundary after).prologue } ∷ (content_cut boundary after).parts)) ending,
            ap epilogue_of ending,
          )

      pub stretch_before_closing : kind_of delimiter closing line ≡ kind.Closing → without_end front ≡ prologue_text (content_cut boundary text)
      stretch_before_closing is =
          let parts = follows.parts ∙ ap (λ (c : Cut). c.parts) (cut_at_closing is) in
          let ending = follows.ending ∙ ap (λ (c : Cut). c.ending) (cut_at_closing is) in
          let whole : concat (content_cut boundary text).prologue ≡ front = follows.prologue ∙ ap (λ (c : Cut). front ++ concat c.prologue) (cut_at_closing is) ∙ append-nil front in
          ap without_end (sym whole)
          ∙ ap (λ (e : MultipartEnding). text_of (stops [] e) (content_cut boundary text).prologue) (sym ending)
          ∙ ap (λ (ps : List BodyPart). text_of (stops ps (content_cut boundary text).ending) (content_cut boundary text).prologue) (sym parts)

      pub stops_at_closing : kind_of delimiter closing line ≡ kind.Closing → (part_texts (content_cut boundary text) ≡ []) × (epilogue_text (content_cut boundary text) ≡ Some after)
      stops_at_closing is =
          let parts = follows.parts ∙ ap (λ (c : Cut). c.parts) (cut_at_closing is) in
          let ending = follows.ending ∙ ap (λ (c : Cut). c.ending) (cut_at_closing is) in (
            ap (λ (ps : List BodyPart). texts_of_parts ps (content_cut boundary text).ending) parts,
            ap epilogue_of ending ∙ ap Some (joined_lines after),
          )

-- at the end of a text, all of it is one stretch
cut_of_nothing : (boundary : List ℕ) → content_cut boundary [] ≡ nothing_cut
unfolding cut_of ended_lines
cut_of_nothing boundary = refl

module _ (boundary text : List ℕ) (follows : Follows boundary text text []) where
  pub stretch_to_end : text ≡ prologue_text (content_cut boundary text)
  stretch_to_end =
      let parts = follows.parts ∙ ap (λ (c : Cut). c.parts) (cut_of_nothing boundary) in
      let ending = follows.ending ∙ ap (λ (c : Cut). c.ending) (cut_of_nothing boundary) in
      let whole : concat (content_cut boundary text).prologue ≡ text = follows.prologue ∙ ap (λ (c : Cut). text ++ concat c.prologue) (cut_of_nothing boundary) ∙ append-nil text in
      sym whole
      ∙ ap (λ (e : MultipartEnding). text_of (stops [] e) (content_cut boundary text).prologue) (sym ending)
      ∙ ap (λ (ps : List BodyPart). text_of (stops ps (content_cut boundary text).ending) (content_cut boundary text).prologue) (sym parts)

  pub stops_at_end : (part_texts (content_cut boundary text) ≡ []) × (epilogue_text (content_cut boundary text) ≡ None)
  stops_at_end =
      let parts = follows.parts ∙ ap (λ (c : Cut). c.parts) (cut_of_nothing boundary) in
      let ending = follows.ending ∙ ap (λ (c : Cut). c.ending) (cut_of_nothing boundary) in (
        ap (λ (ps : List BodyPart). texts_of_parts ps (content_cut boundary text).ending) parts,
        ap epilogue_of ending,
      )
