-- A text can be written for its parts.
use Rattle.std.proofs.Common.{◌≡◌, ℕ, Bool, true, false, ◌||◌, cond, List, [], ◌∷◌, ◌++◌, refl, sym, ap, subst}
use Rattle.std.proofs.lemmas.Bool.{false≢true}
use Rattle.sieve_variables.specs.Name.{folded_name, index_of, is_identifier, is_number}
use Rattle.sieve_variables.specs.Part.{AreWritten, Part, global_part, grouped, is_shared, literal, local_part, match_part, octet_before, part_of_words, variable_part}
use Rattle.text_cut.specs.Cut.{octet, sequence}
use Rattle.sieve_variables.specs.Reference.{CutsReferences, ReferencePiece, is_legal, written}
use Rattle.sieve_variables.specs.Variable.{global_variable, local_variable}

octet_written : (c : ℕ) (parts : List Part) (rest : List ℕ) → AreWritten parts rest → AreWritten (octet_before c parts) (c ∷ rest)
octet_written c [] rest is = (rest, refl, is)
octet_written c (literal octets ∷ parts) rest (further, is, after) = (further, ap (λ text. c ∷ text) is, after)
octet_written c (variable_part (local_variable name) ∷ parts) rest is = (rest, refl, is)
octet_written c (variable_part (global_variable name) ∷ parts) rest is = (rest, refl, is)
octet_written c (match_part index ∷ parts) rest is = (rest, refl, is)

word_written : (word : List ℕ) (parts : List Part) (text rest : List ℕ) (b : Bool) → is_identifier word ≡ b → (b || is_number word) ≡ true → text ≡ written (word ∷ []) ++ rest → AreWritten parts rest → AreWritten (cond b (local_part (folded_name word)) (match_part (index_of word)) ∷ parts) text
word_written word parts text rest true kind legal is after = (word, rest, kind, refl, is, after)
word_written word parts text rest false kind legal is after = (word, rest, legal, refl, is, after)

shared_written : (namespace name : List ℕ) (parts : List Part) (text rest : List ℕ) (b : Bool) → is_shared namespace name ≡ b → text ≡ written (namespace ∷ name ∷ []) ++ rest → AreWritten parts rest → AreWritten (cond b (global_part (folded_name name)) (literal (written (namespace ∷ name ∷ []))) ∷ parts) text
shared_written namespace name parts text rest true kind is after = (namespace, name, rest, kind, refl, is, after)
shared_written namespace name parts text rest false kind is after = (rest, is, after)

reference_written : (words : List (List ℕ)) (parts : List Part) (text rest : List ℕ) → is_legal words ≡ true → text ≡ written words ++ rest → AreWritten parts rest → AreWritten (part_of_words words ∷ parts) text
reference_written [] parts text rest legal is after = absurd (false≢true legal)
reference_written (word ∷ []) parts text rest legal is after =
    word_written word parts text rest (is_identifier word) refl legal is after
reference_written (namespace ∷ name ∷ []) parts text rest legal is after =
    shared_written namespace name parts text rest (is_shared namespace name) refl is after
reference_written (namespace ∷ word ∷ next ∷ words) parts text rest legal is after = (rest, is, after)

pub grouped-written : (pieces : List ReferencePiece) (text : List ℕ) → CutsReferences pieces text → AreWritten (grouped pieces) text
grouped-written [] text is = is
grouped-written (sequence words ∷ pieces) text (legal, rest, is, cut) =
    reference_written words (grouped pieces) text rest legal is (grouped-written pieces rest cut)
grouped-written (octet c ∷ pieces) text (nowhere, rest, is, cut) =
    subst (AreWritten (octet_before c (grouped pieces))) (sym is) (octet_written c (grouped pieces) rest (grouped-written pieces rest cut))
