-- Lines have one cut.
use Rattle.std.proofs.Common.{◌≡◌, ℕ, zero, suc, ◌<◌, Bool, true, false, not, ◌||◌, cond, List, [], ◌∷◌, ◌++◌, length, get_or, refl, sym, ap, subst, ◌∙◌, append_assoc, arith}
use Rattle.std.specs.List.{All}
use Rattle.mime_text.specs.Multipart.{AreInner, Cut, MultipartEnding, IsCut, IsEnding, IsBodyPart, BodyLine, BodyPart, closed_by, cut_of, is_closing, is_delimiter, is_inner, lines_of_ending, lines_of_parts, nothing_cut, open_end}

all_none : {X : Type 0} (P : X → Type 0) → All P []
all_none P = λ k d below. absurd (omega (arith, below))

all_more : {X : Type 0} (P : X → Type 0) (x : X) (xs : List X) → P x → All P xs → All P (x ∷ xs)
all_more {X = X} P x xs one more = λ k d below. by_place k d below
  where
    by_place : (k : ℕ) (d : X) → k < length (x ∷ xs) → P (get_or (x ∷ xs) k d)
    by_place zero d below = one
    by_place (suc k) d below = more k d (omega (arith, below))

all_first : {X : Type 0} (P : X → Type 0) (x : X) (xs : List X) → All P (x ∷ xs) → P x
all_first P x xs all = all 0 x (omega arith)

all_rest : {X : Type 0} (P : X → Type 0) (x : X) (xs : List X) → All P (x ∷ xs) → All P xs
all_rest P x xs all = λ k d below. all (suc k) d (omega (arith, below))

module _ (boundary : List ℕ) where
  -- the computed cut of one more line
  pub delimited : (line : BodyLine) (rest : List BodyLine) → is_delimiter boundary line ≡ true → cut_of boundary (line ∷ rest) ≡ record { prologue = []; parts = record { delimiter = line; lines = (cut_of boundary rest).prologue } ∷ (cut_of boundary rest).parts; ending = (cut_of boundary rest).ending }
  unfolding cut_of
  delimited line rest is = ap (λ b. cond b (record { prologue = []; parts = record { delimiter = line; lines = (cut_of boundary rest).prologue } ∷ (cut_of boundary rest).parts; ending = (cut_of boundary rest).ending })
      (cond (is_closing boundary line) (record { prologue = []; parts = []; ending = closed_by line rest }) (record { prologue = line ∷ (cut_of boundary rest).prologue; parts = (cut_of boundary rest).parts; ending = (cut_of boundary rest).ending }))) is

  undelimited : (line : BodyLine) (rest : List BodyLine) → is_delimiter boundary line ≡ false → cut_of boundary (line ∷ rest) ≡ cond (is_closing boundary line) (record { prologue = []; parts = []; ending = closed_by line rest }) (record { prologue = line ∷ (cut_of boundary rest).prologue; parts = (cut_of boundary rest).parts; ending = (cut_of boundary rest).ending })
  unfolding cut_of
  undelimited line rest is = ap (λ b. cond b (record { prologue = []; parts = record { delimiter = line; lines = (cut_of boundary rest).prologue } ∷ (cut_of boundary rest).parts; ending = (cut_of boundary rest).ending })
      (cond (is_closing boundary line) (record { prologue = []; parts = []; ending = closed_by line rest }) (record { prologue = line ∷ (cut_of boundary rest).prologue; parts = (cut_of boundary rest).parts; ending = (cut_of boundary rest).ending }))) is

  pub closed : (line : BodyLine) (rest : List BodyLine) → is_delimiter boundary line ≡ false → is_closing boundary line ≡ true → cut_of boundary (line ∷ rest) ≡ record { prologue = []; parts = []; ending = closed_by line rest }
  closed line rest other is = undelimited line rest other ∙ ap (λ b. cond b (record { prologue = []; parts = []; ending = closed_by line rest }) (record { prologue = line ∷ (cut_of boundary rest).prologue; parts = (cut_of boundary rest).parts; ending = (cut_of boundary rest).ending })) is

  pub inner : (line : BodyLine) (rest : List BodyLine) → is_delimiter boundary line ≡ false → is_closing boundary line ≡ false → cut_of boundary (line ∷ rest) ≡ record { prologue = line ∷ (cut_of boundary rest).prologue; parts = (cut_of boundary rest).parts; ending = (cut_of boundary rest).ending }
  inner line rest other is = undelimited line rest other ∙ ap (λ b. cond b (record { prologue = []; parts = []; ending = closed_by line rest }) (record { prologue = line ∷ (cut_of boundary rest).prologue; parts = (cut_of boundary rest).parts; ending = (cut_of boundary rest).ending })) is

  as_inner : (line : BodyLine) → is_delimiter boundary line ≡ false → is_closing boundary line ≡ false → is_inner boundary line ≡ true
  as_inner line other is = ap (λ b. not (b || is_closing boundary line)) other ∙ ap not is

  abbrev Inner : BodyLine → Type 0
  Inner line = is_inner boundary line ≡ true

  cut_with : (line : BodyLine) (rest : List BodyLine) (x y : Bool) → is_delimiter boundary line ≡ x → is_closing boundary line ≡ y → IsCut boundary rest (cut_of boundary rest) → IsCut boundary (line ∷ rest) (cut_of boundary (line ∷ rest))
  cut_with line rest true y is closes so = subst (λ (c : Cut). IsCut boundary (line ∷ rest) c) (sym (delimited line rest is)) (record {
    joined = ap (λ (l : List BodyLine). line ∷ l) (append_assoc (cut_of boundary rest).prologue (lines_of_parts (cut_of boundary rest).parts) (lines_of_ending (cut_of boundary rest).ending) ∙ so.joined);
    prologue = all_none Inner;
    parts = all_more (IsBodyPart boundary) (record { delimiter = line; lines = (cut_of boundary rest).prologue }) (cut_of boundary rest).parts (is, so.prologue) so.parts;
    ending = so.ending;
  })
  cut_with line rest false true is closes so = subst (λ (c : Cut). IsCut boundary (line ∷ rest) c) (sym (closed line rest is closes)) (record {
    joined = refl;
    prologue = all_none Inner;
    parts = all_none (IsBodyPart boundary);
    ending = (is, closes);
  })
  cut_with line rest false false is closes so = subst (λ (c : Cut). IsCut boundary (line ∷ rest) c) (sym (inner line rest is closes)) (record {
    joined = ap (λ (l : List BodyLine). line ∷ l) so.joined;
    prologue = all_more Inner line (cut_of boundary rest).prologue (as_inner line is closes) so.prologue;
    parts = so.parts;
    ending = so.ending;
  })

  cut_none : cut_of boundary [] ≡ nothing_cut
  unfolding cut_of
  cut_none = refl

  -- the computed cut is one
  pub is_cut : (lines : List BodyLine) → IsCut boundary lines (cut_of boundary lines)
  is_cut [] = subst (λ (c : Cut). IsCut boundary [] c) (sym cut_none) (record { joined = refl; prologue = all_none Inner; parts = all_none (IsBodyPart boundary); ending = tt })
  is_cut (line ∷ rest) = cut_with line rest (is_delimiter boundary line) (is_closing boundary line) refl refl (is_cut rest)

  -- each cut is the computed one

  not_delimiter : (line : BodyLine) → is_inner boundary line ≡ true → is_delimiter boundary line ≡ false
  not_delimiter line is = by_test (is_delimiter boundary line) (is_closing boundary line) is
    where
      by_test : (x y : Bool) → not (x || y) ≡ true → x ≡ false
      by_test true y is = absurd cc
      by_test false y is = refl

  not_closing : (line : BodyLine) → is_inner boundary line ≡ true → is_closing boundary line ≡ false
  not_closing line is = by_test (is_delimiter boundary line) (is_closing boundary line) is
    where
      by_test : (x y : Bool) → not (x || y) ≡ true → y ≡ false
      by_test true y is = absurd cc
      by_test false true is = absurd cc
      by_test false false is = refl

  abbrev Tail : List BodyPart → MultipartEnding → List BodyLine
  Tail parts ending = lines_of_parts parts ++ lines_of_ending ending

  after_prologue : (parts : List BodyPart) (ending : MultipartEnding) (prologue : List BodyLine) → AreInner boundary prologue
      → (let none : Cut = record { prologue = []; parts = parts; ending = ending } in none) ≡ cut_of boundary (Tail parts ending)
      → (let some : Cut = record { prologue = prologue; parts = parts; ending = ending } in some) ≡ cut_of boundary (prologue ++ Tail parts ending)
  after_prologue parts ending [] all base = base
  after_prologue parts ending (line ∷ more) all base =
      ap (λ (c : Cut). let with : Cut = record { prologue = line ∷ c.prologue; parts = c.parts; ending = c.ending } in with) (after_prologue parts ending more (all_rest Inner line more all) base)
      ∙ sym (inner line (more ++ Tail parts ending) (not_delimiter line (all_first Inner line more all)) (not_closing line (all_first Inner line more all)))

  parts_only : (parts : List BodyPart) (ending : MultipartEnding) → All (IsBodyPart boundary) parts → IsEnding boundary ending
      → (let none : Cut = record { prologue = []; parts = parts; ending = ending } in none) ≡ cut_of boundary (Tail parts ending)
  parts_only [] open_end all is = sym cut_none
  parts_only [] (closed_by closing epilogue) all is = sym (closed closing epilogue is.0 is.1)
  parts_only (part ∷ more) ending all is =
      let first = all_first (IsBodyPart boundary) part more all in
      let rest = after_prologue more ending part.lines first.1 (parts_only more ending (all_rest (IsBodyPart boundary) part more all) is) in
      ap (λ (c : Cut). let with : Cut = record { prologue = []; parts = record { delimiter = part.delimiter; lines = c.prologue } ∷ c.parts; ending = c.ending } in with) rest
      ∙ sym (delimited part.delimiter (part.lines ++ Tail more ending) first.0)
      ∙ ap (λ (l : List BodyLine). cut_of boundary (part.delimiter ∷ l)) (sym (append_assoc part.lines (lines_of_parts more) (lines_of_ending ending)))

  pub only_cut : (lines : List BodyLine) (cut : Cut) → IsCut boundary lines cut → cut ≡ cut_of boundary lines
  only_cut lines cut is = after_prologue cut.parts cut.ending cut.prologue is.prologue (parts_only cut.parts cut.ending is.parts is.ending) ∙ ap (cut_of boundary) is.joined
