-- The first line of a text.
use Rattle.octets.specs.Octet.{octet_of}
use Rattle.std.proofs.Common.{◌≡◌, ℕ, ◌+◌, ◌-◌, ◌<◌, ◌≤◌, true, false, ◌==◌, List, [], ◌∷◌, ◌++◌, length, take, drop, slice_index, slice_range, get_or, refl, sym, ap, subst, ◌∙◌, arith}
use Rattle.std.specs.List.{All, slice_split, onto_first}
use Rattle.std.specs.Str.Lines.{lines, lines_of_parts, strip_carriage_return}
use Rattle.std.proofs.lemmas.Bool.{cond_both, ne_eqb, cond-false, eqb-true, false_from_ne_true}
use Rattle.std.proofs.lemmas.List.{drop_more, get_or-take, length-take-le, length-take, length-drop, take-append-drop, take-take, take_all, take_rest, drop-drop, drop_all, get_or_default}
use Rattle.std.proofs.lemmas.List.Splits.{slice_split_at, slice_split_none}
use Rattle.memchr.specs.Find.{Nowhere, Passes, is_byte}
use Rattle.message_text.specs.view.Positions.{IsLineAt}

-- a part before another one is a line, without the carriage return at its end
line_onto : (part : List ℕ) (b : ℕ) (parts : List (List ℕ)) → lines_of_parts (part ∷ onto_first b parts) ≡ strip_carriage_return part ∷ lines_of_parts (onto_first b parts)
line_onto part b [] = refl
line_onto part b (next ∷ parts) = refl

line_before : (part text : List ℕ) → lines_of_parts (part ∷ slice_split (λ b. b == octet_of "\n") text) ≡ strip_carriage_return part ∷ lines text
line_before part [] = refl
line_before part (b ∷ text) =
    cond_both (b == octet_of "\n") ([] ∷ slice_split (λ b. b == octet_of "\n") text) (onto_first b (slice_split (λ b. b == octet_of "\n") text))
    (λ parts. lines_of_parts (part ∷ parts) ≡ strip_carriage_return part ∷ lines_of_parts parts)
    (λ _. refl) (λ _. line_onto part b (slice_split (λ b. b == octet_of "\n") text))

-- the first line of a text goes up to the first line feed, without a carriage return before that
pub lines-feed : (line rest : List ℕ) → All (λ b. (b == octet_of "\n") ≡ false) line → lines (line ++ octet_of "\n" ∷ rest) ≡ strip_carriage_return line ∷ lines rest
lines-feed line rest plain = ap lines_of_parts (slice_split_at (λ b. b == octet_of "\n") line (octet_of "\n") rest plain refl) ∙ line_before line rest

-- a text that has octets, and no line feed, is one line
pub lines-last : (line : List ℕ) → 0 < length line → All (λ b. (b == octet_of "\n") ≡ false) line → lines line ≡ line ∷ []
lines-last line some plain =
    ap lines_of_parts (slice_split_none (λ b. b == octet_of "\n") line plain)
    ∙ cond-false (length line == 0) [] (line ∷ []) (ne_eqb (length line) 0 (omega arith))

-- no line feed stands where a search found none
pub plain_before : (hay : List ℕ) (len : ℕ) → len ≤ length hay → Nowhere (Passes (is_byte (octet_of "\n")) hay) 0 len → All (λ b. (b == octet_of "\n") ≡ false) (take len hay)
plain_before hay len within nowhere k d below =
    let short : k < len = omega (arith, length-take-le len hay within) in
    let P : ℕ → Type 0 = λ b. (b == octet_of "\n") ≡ true in
    rw get_or-take
    (false_from_ne_true (get_or hay k d == octet_of "\n") (λ is. nowhere k (omega arith) short (subst P (get_or_default hay k d 0 (omega arith)) is)))

-- a piece without the carriage return at its end is a front of the piece
front_of_piece : (piece : List ℕ) → strip_carriage_return piece ≡ take (length (strip_carriage_return piece)) piece
front_of_piece piece =
    cond_both (slice_index piece (length piece - 1) == octet_of "\r") (take (length piece - 1) piece) piece (λ line. line ≡ take (length line) piece)
    (λ _. ap (λ n. take n piece) (sym (length-take-le (length piece - 1) piece (omega arith))))
    (λ _. sym (take_all (length piece) piece (omega arith)))

line_le_piece : (piece : List ℕ) → length (strip_carriage_return piece) ≤ length piece
line_le_piece piece =
    cond_both (slice_index piece (length piece - 1) == octet_of "\r") (take (length piece - 1) piece) piece (λ line. length line ≤ length piece)
    (λ _. omega (arith, length-take (length piece - 1) piece)) (λ _. omega arith)

pub line_to_end : (text : List ℕ) (start : ℕ) → start < length text → Nowhere (Passes (is_byte (octet_of "\n")) (slice_range text start (length text))) 0 (length (slice_range text start (length text))) → IsLineAt text start (length text) (length text)
line_to_end text start some nowhere =
    let rest = slice_range text start (length text) in
    let is : rest ≡ drop start text = take_rest text start in
    let len : length rest ≡ length text - start = ap length is ∙ length-drop start text in
    let plain : All (λ b. (b == octet_of "\n") ≡ false) rest =
    subst (All (λ b. (b == octet_of "\n") ≡ false)) (take_all (length rest) rest (omega arith)) (plain_before rest (length rest) (omega arith) nowhere) in
    record {
      ordered = omega arith;
      forward = some;
      end_within = omega arith;
      next_within = omega arith;
      first = ap lines (sym is) ∙ lines-last rest (omega arith) plain ∙ ap (λ (end : List ℕ). rest ∷ lines end) (sym (drop_all (length text) text (omega arith)));
    }

pub line_to_feed : (text : List ℕ) (start len : ℕ) (line : List ℕ) → start ≤ length text → Nowhere (Passes (is_byte (octet_of "\n")) (slice_range text start (length text))) 0 len → len < length (slice_range text start (length text)) → Passes (is_byte (octet_of "\n")) (slice_range text start (length text)) len → line ≡ strip_carriage_return (slice_range text start (start + len)) → IsLineAt text start (start + length line) (start + len + 1)
line_to_feed text start len line within nowhere short feed is_line =
    let rest = drop start text in
    let is : slice_range text start (length text) ≡ rest = take_rest text start in
    let all : length rest ≡ length text - start = length-drop start text in
    let room : len < length rest = omega (arith, ap length is) in
    let piece = take len rest in
    let Quiet : List ℕ → Type 0 = λ hay. Nowhere (Passes (is_byte (octet_of "\n")) hay) 0 len in
    let plain = plain_before rest len (omega arith) (subst Quiet is nowhere) in
    let Fed : List ℕ → Type 0 = λ hay. Passes (is_byte (octet_of "\n")) hay len in
    let at_feed : get_or rest len 0 ≡ octet_of "\n" = eqb-true (get_or rest len 0) (octet_of "\n") (subst Fed is feed) in
    let cut : rest ≡ piece ++ octet_of "\n" ∷ drop (len + 1) rest =
    sym (take-append-drop len rest) ∙ ap (λ (end : List ℕ). piece ++ end) (drop_more rest len 0 room)
    ∙ ap (λ b. piece ++ b ∷ drop (len + 1) rest) at_feed in
    let same_piece : slice_range text start (start + len) ≡ piece = ap (λ n. take n rest) (omega arith) in
    let stripped : line ≡ strip_carriage_return piece = is_line ∙ ap strip_carriage_return same_piece in
    let fits : length line ≤ len =
    omega (arith, ap length stripped, line_le_piece piece, length-take-le len rest (omega arith)) in
    let front : slice_range text start (start + length line) ≡ line =
    ap (λ n. take n rest) (let e : start + length line - start ≡ length line = omega arith in e)
    ∙ sym (take-take (length line) len rest fits)
    ∙ sym (subst (λ (l : List ℕ). l ≡ take (length l) piece) (sym stripped) (front_of_piece piece)) in
    let tail : drop (len + 1) rest ≡ drop (start + len + 1) text =
    drop-drop (len + 1) start text ∙ ap (λ n. drop n text) (omega arith) in
    record {
      ordered = omega arith;
      forward = omega arith;
      end_within = omega arith;
      next_within = omega arith;
      first = ap lines cut ∙ lines-feed piece (drop (len + 1) rest) plain
          ∙ ap (λ (l : List ℕ). l ∷ lines (drop (len + 1) rest)) (sym stripped ∙ sym front)
          ∙ ap (λ (end : List ℕ). slice_range text start (start + length line) ∷ lines end) tail;
    }

-- THE FIRST LINE

pub first_to_end : (text : List ℕ) → 0 < length text → Nowhere (Passes (is_byte (octet_of "\n")) text) 0 (length text) → lines text ≡ text ∷ lines (drop (length text) text)
first_to_end text some nowhere =
    let plain : All (λ b. (b == octet_of "\n") ≡ false) text = subst (All (λ b. (b == octet_of "\n") ≡ false)) (take_all (length text) text (omega arith)) (plain_before text (length text) (omega arith) nowhere) in
    lines-last text some plain ∙ ap (λ (end : List ℕ). text ∷ lines end) (sym (drop_all (length text) text (omega arith)))

pub first_to_feed : (text : List ℕ) (len : ℕ) (line : List ℕ) → Nowhere (Passes (is_byte (octet_of "\n")) text) 0 len → len < length text → Passes (is_byte (octet_of "\n")) text len → line ≡ strip_carriage_return (take len text)
    → lines text ≡ line ∷ lines (drop (len + 1) text)
first_to_feed text len line nowhere short feed is =
    let at_feed : get_or text len 0 ≡ octet_of "\n" = eqb-true (get_or text len 0) (octet_of "\n") feed in
    let cut : text ≡ take len text ++ octet_of "\n" ∷ drop (len + 1) text =
    sym (take-append-drop len text) ∙ ap (λ (end : List ℕ). take len text ++ end) (drop_more text len 0 short) ∙ ap (λ b. take len text ++ b ∷ drop (len + 1) text) at_feed in
    ap lines cut ∙ lines-feed (take len text) (drop (len + 1) text) (plain_before text len (omega arith) nowhere) ∙ ap (λ (l : List ℕ). l ∷ lines (drop (len + 1) text)) (sym is)
