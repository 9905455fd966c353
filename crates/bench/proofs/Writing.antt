-- How a text is written in several steps.
use Rattle.std.proofs.Common.{◌≡◌, ℕ, List, [], ◌++◌, sym, ap, ◌∙◌, append_assoc, append-nil, refl, Option, Result, Ok, Err, IsErr, ◌<◌, ◌+◌, length, get_or, drop, subst}
use Rattle.std.specs.List.{flat_map}
use Rattle.std.proofs.lemmas.List.{drop_more}
use Rattle.devices.proofs.Writing.{last_of_three, middle_failed, wrote_nothing, wrote_both, wrote_then_front, wrote_front_of, writes_failed}
use Rattle.devices.specs.Writers.{Wrote, WroteFront, Writes}

-- Between two states of a device all of a text was written, but for the part that is left.
pub record Writing {S : Type 0} (contents : S → Option (List ℕ)) (fault_count : S → ℕ) (old new : S) (left all : List ℕ) : Type 0 where
  pub done : List ℕ
  pub wrote : Wrote contents fault_count old new done
  pub whole : done ++ left ≡ all

-- the texts of the items from one on are the text of that one, and those of the items after
flat_map-drop : {X : Type 0} (f : X → List ℕ) (xs : List X) (i : ℕ) (x : X) → i < length xs → x ≡ get_or xs i x → flat_map f (drop i xs) ≡ f x ++ flat_map f (drop (i + 1) xs)
flat_map-drop f xs i x within is = rw (drop_more xs i x within) (ap (λ y. f y ++ flat_map f (drop (i + 1) xs)) (sym is))

-- all is left in the beginning
pub begins : {S : Type 0} (contents : S → Option (List ℕ)) (fault_count : S → ℕ) (s : S) (all : List ℕ) → Writing contents fault_count s s all all
begins contents fault_count s all = record {
  done = [];
  wrote = wrote_nothing contents fault_count s;
  whole = refl;
}

-- where the next part of a text is written, the text after the part is left
pub goes_on : {S : Type 0} (contents : S → Option (List ℕ)) (fault_count : S → ℕ) (a b c : S) (part left all : List ℕ)
    → Writing contents fault_count a b (part ++ left) all → Wrote contents fault_count b c part → Writing contents fault_count a c left all
goes_on contents fault_count a b c part left all so_far step = record {
  done = so_far.done ++ part;
  wrote = wrote_both contents fault_count a b c so_far.done part so_far.wrote step;
  whole = append_assoc so_far.done part left ∙ so_far.whole;
}

-- a text is written on, where the text that is left begins with a part that was written
pub goes_on_from : {S : Type 0} (contents : S → Option (List ℕ)) (fault_count : S → ℕ) (a b c : S) (part rest left all : List ℕ)
    → Writing contents fault_count a b left all → left ≡ part ++ rest → Wrote contents fault_count b c part → Writing contents fault_count a c rest all
goes_on_from contents fault_count a b c part rest left all so_far cut step = goes_on contents fault_count a b c part rest all (rw (← cut) so_far) step

-- where nothing is left, all of a text was written
pub ends : {S : Type 0} (contents : S → Option (List ℕ)) (fault_count : S → ℕ) (a b : S) (left all : List ℕ)
    → left ≡ [] → Writing contents fault_count a b left all → Wrote contents fault_count a b all
ends contents fault_count a b left all none so_far =
    rw (sym (sym (ap (λ l. so_far.done ++ l) none ∙ append-nil so_far.done) ∙ so_far.whole)) so_far.wrote

-- where the next part of a text is written in part, a front of the whole text was written
pub breaks_off : {S : Type 0} (contents : S → Option (List ℕ)) (fault_count : S → ℕ) (a b c : S) (part left all : List ℕ)
    → Writing contents fault_count a b (part ++ left) all → WroteFront contents fault_count b c part → WroteFront contents fault_count a c all
breaks_off contents fault_count a b c part left all so_far step =
    subst (WroteFront contents fault_count a c) (append_assoc so_far.done part left ∙ so_far.whole)
    (wrote_front_of contents fault_count a c (so_far.done ++ part) left
    (wrote_then_front contents fault_count a b c so_far.done part so_far.wrote step))

-- a text is written no further, where an error of its next part is passed on
pub stops : {S T E : Type 0} (contents : S → Option (List ℕ)) (fault_count : S → ℕ) (r : Result T E) → IsErr r → (a b c : S) (part rest left all : List ℕ)
    → Writing contents fault_count a b left all → left ≡ part ++ rest → WroteFront contents fault_count b c part → Writes contents fault_count r a c all
stops contents fault_count r is_err a b c part rest left all so_far cut step =
    writes_failed contents fault_count r a c all is_err (breaks_off contents fault_count a b c part rest all (rw (← cut) so_far) step)

-- where the last part of a text is written, or fails to be, so is the whole text
pub ends_last : {S T E : Type 0} (contents : S → Option (List ℕ)) (fault_count : S → ℕ) (r : Result T E) (a b c : S) (part all : List ℕ)
    → Writing contents fault_count a b part all → Writes contents fault_count r b c part → Writes contents fault_count r a c all
ends_last contents fault_count (Ok x) a b c part all so_far step =
    subst (Wrote contents fault_count a c) so_far.whole (wrote_both contents fault_count a b c so_far.done part so_far.wrote step)
ends_last contents fault_count (Err e) a b c part all so_far step = breaks_off contents fault_count a b c part [] all (rw append-nil so_far) step

-- where the next item's text is written, those of the items after it are left
pub goes_on_at : {S X : Type 0} (contents : S → Option (List ℕ)) (fault_count : S → ℕ) (a b c : S) (f : X → List ℕ) (xs : List X) (i : ℕ) (x : X) (all : List ℕ)
    → i < length xs → x ≡ get_or xs i x → Writing contents fault_count a b (flat_map f (drop i xs)) all → Wrote contents fault_count b c (f x) → Writing contents fault_count a c (flat_map f (drop (i + 1) xs)) all
goes_on_at contents fault_count a b c f xs i x all within is so_far step =
    goes_on contents fault_count a b c (f x) (flat_map f (drop (i + 1) xs)) all (rw (← flat_map-drop f xs i x within is) so_far) step

-- The next item's text is written in part, and its error is passed on. So a front of the whole text
-- was written.
pub stops_at : {S T E X : Type 0} (contents : S → Option (List ℕ)) (fault_count : S → ℕ) (r : Result T E) → IsErr r → (a b c : S) (f : X → List ℕ) (xs : List X) (i : ℕ) (x : X) (all : List ℕ)
    → i < length xs → x ≡ get_or xs i x → Writing contents fault_count a b (flat_map f (drop i xs)) all → WroteFront contents fault_count b c (f x) → Writes contents fault_count r a c all
stops_at contents fault_count r is_err a b c f xs i x all within is so_far step =
    stops contents fault_count r is_err a b c (f x) (flat_map f (drop (i + 1) xs)) _ all so_far (flat_map-drop f xs i x within is) step

-- For `using(..)` on a function that writes the blanks before a line, the line, and its end.
pub ruleset lines = (last_of_three, middle_failed, writes_failed, wrote_front_of)

pub ruleset writing = (begins, goes_on, goes_on_at, ends, ends_last, breaks_off, stops, stops_at)
