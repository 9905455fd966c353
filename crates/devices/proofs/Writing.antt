-- Texts written one after another, joined: a text that was written, or a front of one.
use Rattle.std.proofs.Common.{◌≡◌, ℕ, ◌≤◌, List, [], ◌∷◌, ◌++◌, sym, ap, ◌∙◌, subst, append_assoc, append-nil, arith, Option, Result, Ok, Err, OnErr, IsErr, take, drop, length, get_or, ◌<◌, ◌+◌, take-append-drop}
use Rattle.std.specs.List.{flat_map}
use Rattle.std.proofs.lemmas.Grind.{flat_map-append}
use Rattle.std.proofs.lemmas.List.{take_more}
use Rattle.std.proofs.lemmas.Result.{MatchResult-from_err}
use Rattle.std.proofs.KnownBytes.{Appends-nil, Appends-trans}
use Rattle.devices.specs.Devices.{HasRisen}
use Rattle.devices.specs.Writers.{Wrote, WroteFront, Writes}

-- a front of the rest goes to the end of what is done, and the two still make the whole
pub front_moves : (all done rest after : List ℕ) (n : ℕ) → after ≡ drop n rest → done ++ rest ≡ all → (done ++ take n rest) ++ after ≡ all
front_moves all done rest after n cut split =
    append_assoc done (take n rest) after ∙ ap (λ l. done ++ (take n rest ++ l)) cut ∙ ap (λ l. done ++ l) (take-append-drop n rest) ∙ split

-- nothing was written
pub wrote_nothing : {S : Type 0} (contents : S → Option (List ℕ)) (fault_count : S → ℕ) (s : S) → Wrote contents fault_count s s []
wrote_nothing contents fault_count s = record { text_appended = Appends-nil (contents s); faults_kept = omega arith }

-- one text was written, and then another
pub wrote_both : {S : Type 0} (contents : S → Option (List ℕ)) (fault_count : S → ℕ) (a b c : S) (s t : List ℕ)
    → Wrote contents fault_count a b s → Wrote contents fault_count b c t → Wrote contents fault_count a c (s ++ t)
wrote_both contents fault_count a b c s t first second = record {
  text_appended = Appends-trans _ _ _ _ _ first.text_appended second.text_appended;
  faults_kept = let one : fault_count a ≤ fault_count b = first.faults_kept in
      let two : fault_count b ≤ fault_count c = second.faults_kept in
      omega arith;
}

-- one text was written, and then a front of another
pub wrote_then_front : {S : Type 0} (contents : S → Option (List ℕ)) (fault_count : S → ℕ) (a b c : S) (s t : List ℕ)
    → Wrote contents fault_count a b s → WroteFront contents fault_count b c t → WroteFront contents fault_count a c (s ++ t)
wrote_then_front contents fault_count a b c s t first second = record {
  front = s ++ second.front;
  back = second.back;
  whole = append_assoc s second.front second.back ∙ ap (λ l. s ++ l) second.whole;
  front_appended = Appends-trans _ _ _ _ _ first.text_appended second.front_appended;
  fault_counted = let one : fault_count a ≤ fault_count b = first.faults_kept in
      let two : HasRisen (fault_count b) (fault_count c) = second.fault_counted in
      omega arith;
}

-- one text was written, and then another was tried
pub last_of_two : {S T E : Type 0} (contents : S → Option (List ℕ)) (fault_count : S → ℕ) (r : Result T E) (a b c : S) (s t : List ℕ)
    → Wrote contents fault_count a b s → Writes contents fault_count r b c t → Writes contents fault_count r a c (s ++ t)
last_of_two contents fault_count (Ok x) a b c s t first second = wrote_both contents fault_count a b c s t first second
last_of_two contents fault_count (Err e) a b c s t first second = wrote_then_front contents fault_count a b c s t first second

-- two texts were written, and then a third was tried
pub last_of_three : {S T E : Type 0} (contents : S → Option (List ℕ)) (fault_count : S → ℕ) (r : Result T E) (a b c d : S) (s t u : List ℕ)
    → Wrote contents fault_count a b s → Wrote contents fault_count b c t → Writes contents fault_count r c d u
    → Writes contents fault_count r a d ((s ++ t) ++ u)
last_of_three contents fault_count r a b c d s t u first second third =
    last_of_two contents fault_count r a c d (s ++ t) u (wrote_both contents fault_count a b c s t first second) third

-- a front of a text is a front of a longer one
pub wrote_front_of : {S : Type 0} (contents : S → Option (List ℕ)) (fault_count : S → ℕ) (a b : S) (s t : List ℕ)
    → WroteFront contents fault_count a b s → WroteFront contents fault_count a b (s ++ t)
wrote_front_of contents fault_count a b s t first = record {
  front = first.front;
  back = first.back ++ t;
  whole = sym (append_assoc first.front first.back t) ∙ ap (λ l. l ++ t) first.whole;
  front_appended = first.front_appended;
  fault_counted = first.fault_counted;
}

-- a fact that holds in any case holds on an error
pub on_err_from : {T E P : Type 0} (r : Result T E) → P → OnErr r P
on_err_from (Ok x) p = tt
on_err_from (Err e) p = p

-- where a front was written and the answer is an error, the text was tried
pub writes_failed : {S T E : Type 0} (contents : S → Option (List ℕ)) (fault_count : S → ℕ) (r : Result T E) (a b : S) (s : List ℕ)
    → IsErr r → WroteFront contents fault_count a b s → Writes contents fault_count r a b s
writes_failed contents fault_count r a b s is_err front = MatchResult-from_err r _ _ is_err (λ _. front)

-- a text that was tried may be named by an equal one
pub writes_as : {S T E : Type 0} (contents : S → Option (List ℕ)) (fault_count : S → ℕ) (r : Result T E) (a b : S) (s t : List ℕ)
    → s ≡ t → Writes contents fault_count r a b s → Writes contents fault_count r a b t
writes_as contents fault_count r a b s t same writes = subst (Writes contents fault_count r a b) same writes

-- the first of two texts was tried, and failed
pub first_failed : {S T E : Type 0} (contents : S → Option (List ℕ)) (fault_count : S → ℕ) (r : Result T E) (a b : S) (s t u : List ℕ)
    → s ++ t ≡ u → IsErr r → WroteFront contents fault_count a b s → Writes contents fault_count r a b u
first_failed contents fault_count r a b s t u same is_err front =
    writes_as contents fault_count r a b (s ++ t) u same (writes_failed contents fault_count r a b (s ++ t) is_err (wrote_front_of contents fault_count a b s t front))

-- the first of two texts was written, and the second tried
pub then_last : {S T E : Type 0} (contents : S → Option (List ℕ)) (fault_count : S → ℕ) (r : Result T E) (a b c : S) (s t u : List ℕ)
    → s ++ t ≡ u → Wrote contents fault_count a b s → Writes contents fault_count r b c t → Writes contents fault_count r a c u
then_last contents fault_count r a b c s t u same first second =
    writes_as contents fault_count r a c (s ++ t) u same (last_of_two contents fault_count r a b c s t first second)

-- of three texts the first was written, and the second failed
pub middle_failed : {S T E : Type 0} (contents : S → Option (List ℕ)) (fault_count : S → ℕ) (r : Result T E) (a b c : S) (s t u : List ℕ)
    → IsErr r → Wrote contents fault_count a b s → WroteFront contents fault_count b c t → Writes contents fault_count r a c ((s ++ t) ++ u)
middle_failed contents fault_count r a b c s t u is_err first second =
    writes_failed contents fault_count r a c ((s ++ t) ++ u) is_err
    (wrote_front_of contents fault_count a c (s ++ t) u (wrote_then_front contents fault_count a b c s t first second))

-- a front of some items' texts is a front of all their texts
pub wrote_front_of_items : {S X : Type 0} (contents : S → Option (List ℕ)) (fault_count : S → ℕ) (a b : S) (f : X → List ℕ) (xs : List X) (n : ℕ)
    → WroteFront contents fault_count a b (flat_map f (take n xs)) → WroteFront contents fault_count a b (flat_map f xs)
wrote_front_of_items contents fault_count a b f xs n front =
    subst (λ u. WroteFront contents fault_count a b (flat_map f u)) (take-append-drop n xs)
    (subst (WroteFront contents fault_count a b) (sym (flat_map-append f (take n xs) (drop n xs)))
    (wrote_front_of contents fault_count a b _ (flat_map f (drop n xs)) front))

-- the texts of the items before an item were written, and then a front of the text of that item
pub wrote_items_then_front : {S X : Type 0} (contents : S → Option (List ℕ)) (fault_count : S → ℕ) (a b c : S) (f : X → List ℕ) (xs : List X) (i : ℕ) (d : X)
    → i < length xs → Wrote contents fault_count a b (flat_map f (take i xs)) → WroteFront contents fault_count b c (f (get_or xs i d))
    → WroteFront contents fault_count a c (flat_map f xs)
wrote_items_then_front contents fault_count a b c f xs i d within first second =
    let joined : flat_map f (take (i + 1) xs) ≡ flat_map f (take i xs) ++ f (get_or xs i d) =
    ap (flat_map f) (take_more xs i d within) ∙ flat_map-append f (take i xs) (get_or xs i d ∷ [])
    ∙ ap (λ l. flat_map f (take i xs) ++ l) (append-nil (f (get_or xs i d))) in
    wrote_front_of_items contents fault_count a c f xs (i + 1)
    (subst (WroteFront contents fault_count a c) (sym joined) (wrote_then_front contents fault_count a b c _ _ first second))

-- the texts of the items before an item were written, and then a front of an equal item's text
pub wrote_items_then_front_at : {S X : Type 0} (contents : S → Option (List ℕ)) (fault_count : S → ℕ) (a b c : S) (f : X → List ℕ) (xs : List X) (i : ℕ) (d x : X)
    → i < length xs → x ≡ get_or xs i d → Wrote contents fault_count a b (flat_map f (take i xs)) → WroteFront contents fault_count b c (f x)
    → WroteFront contents fault_count a c (flat_map f xs)
wrote_items_then_front_at contents fault_count a b c f xs i d x within same first second =
    wrote_items_then_front contents fault_count a b c f xs i d within first (subst (λ y. WroteFront contents fault_count b c (f y)) same second)

-- For `using(..)` on a function that writes up to three texts in turn and gives up at the first
-- fault. Each text is a call of a definition that does not unfold there. A text that computes to
-- single octets hides where the texts join.
pub ruleset writing = (last_of_two, last_of_three, wrote_nothing, wrote_both, wrote_then_front, wrote_front_of, on_err_from, writes_failed)

-- For `using(..)` on a function that writes the text of each item of a slice.
pub ruleset writing_items = (wrote_nothing, wrote_both, wrote_front_of_items, wrote_items_then_front, wrote_items_then_front_at, on_err_from, writes_failed)
