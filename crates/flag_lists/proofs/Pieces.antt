-- The pieces of a text, and flags that are added one after the other.
use Rattle.octets.specs.Octet.{octet_of}
use Rattle.std.proofs.Common.{◌≡◌, ℕ, ◌+◌, true, length, take, drop, get_or, List, [], ◌∷◌, ◌++◌, SomeIndex, refl, sym, ap, subst, ◌∙◌, append_assoc, arith}
use Rattle.std.specs.List.{All, position_or_len}
use Rattle.std.proofs.lemmas.Bool.{false_from_ne_true}
use Rattle.std.proofs.lemmas.List.{get_or_default, length-append}
use Rattle.std.proofs.lemmas.List.Elements.{All-get_or}
use Rattle.std.proofs.lemmas.List.Splits.{slice_split_first, slice_split_none}
use Rattle.std.proofs.lemmas.List.Sums.{position_or_len_is}
use Rattle.std.proofs.Math.Seq.{get_or-append_seam, take-append_seam}
use Rattle.memchr.specs.Find.{NoneBefore, Nowhere, Passes, is_byte}
use Rattle.flag_lists.specs.Flags.{flag_union, has_flag, is_space, pieces}
use Rattle.flag_lists.proofs.FlagLists.{union_append, union_keeps, union_nil}

-- PIECES

abbrev Space : List ℕ → ℕ → Type 0
Space text = Passes (is_byte (octet_of " ")) text

-- a text without a space is its one piece
pub pieces_none : (text : List ℕ) → Nowhere (Space text) 0 (length text) → pieces text ≡ text ∷ []
pieces_none text nowhere =
    let Spaced : ℕ → Type 0 = λ b. is_space b ≡ true in
    slice_split_none is_space text (λ k d below. false_from_ne_true _ (λ is. nowhere k (omega arith) below (subst Spaced (get_or_default text k d 0 below) is)))

-- the first piece ends at the first space
pub pieces_some : (text : List ℕ) (k : ℕ) → NoneBefore (Space text) 0 (length text) k → Space text k → pieces text ≡ take k text ∷ pieces (drop (k + 1) text)
pieces_some text k first space =
    let within = first.high in
    let at : position_or_len is_space text ≡ k =
    position_or_len_is is_space text k 0 (omega arith) (λ j below. false_from_ne_true _ (λ is. first.before j (omega arith) below is)) (λ _. space) in
    slice_split_first is_space text 0 (omega (arith, at)) ∙ ap (λ n. take n text ∷ pieces (drop (n + 1) text)) at

-- FLAGS THAT ARE ADDED IN TURN

-- the flags before the rest have been added
abbrev pub AddedSoFar : (all left old new : List (List ℕ)) → Type 0
AddedSoFar all left old new = (done : List (List ℕ)) × (all ≡ done ++ left) × (new ≡ flag_union old done)

pub added_none : (all old : List (List ℕ)) → AddedSoFar all all old old
added_none all old = ([], refl, sym (union_nil old))

pub added_more : (all left rest : List (List ℕ)) (flag : List ℕ) (old new newer : List (List ℕ)) → left ≡ flag ∷ rest → newer ≡ flag_union new (flag ∷ []) → AddedSoFar all left old new → AddedSoFar all rest old newer
added_more all left rest flag old new newer next made (done, cut, is) = (
  done ++ flag ∷ [],
  cut ∙ ap (λ l. done ++ l) next ∙ sym (append_assoc done (flag ∷ []) rest),
  made ∙ ap (λ l. flag_union l (flag ∷ [])) is ∙ union_append old done (flag ∷ []),
)

pub added_some : (all left rest : List (List ℕ)) (flag : List ℕ) (old new : List (List ℕ)) → left ≡ flag ∷ rest → AddedSoFar all left old new → SomeIndex all (λ i. new ≡ flag_union old (take i all))
added_some all left rest flag old new next (done, cut, is) =
    let whole : all ≡ done ++ flag ∷ rest = cut ∙ ap (λ l. done ++ l) next in
    let long : length all ≡ length done + length (flag ∷ rest) = ap length whole ∙ length-append done (flag ∷ rest) in
    (length done, omega (arith, long), is ∙ ap (flag_union old) (sym (ap (take (length done)) whole ∙ take-append_seam done (flag ∷ rest))))

-- a list that has all flags has the next one too, with those that were added so far
pub next_there : (all left rest : List (List ℕ)) (flag : List ℕ) (old new : List (List ℕ)) → left ≡ flag ∷ rest → AddedSoFar all left old new → All (λ x. has_flag old x ≡ true) all → has_flag new flag ≡ true
next_there all left rest flag old new next (done, cut, is) there =
    let whole : all ≡ done ++ flag ∷ rest = cut ∙ ap (λ l. done ++ l) next in
    let long : length all ≡ length done + length (flag ∷ rest) = ap length whole ∙ length-append done (flag ∷ rest) in
    let one : get_or all (length done) [] ≡ flag = ap (λ l. get_or l (length done) []) whole ∙ get_or-append_seam done flag rest [] in
    ap (λ l. has_flag l flag) is
    ∙ union_keeps old done flag (sym (ap (has_flag old) one) ∙ All-get_or (λ x. has_flag old x ≡ true) all (length done) [] (omega (arith, long)) there)
