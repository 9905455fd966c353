-- Lists that lie one after another.
use Rattle.std.proofs.Common.{◌≡◌, ℕ, zero, suc, ◌+◌, ◌<◌, ◌≤◌, arith, subst, List, [], ◌∷◌, ◌++◌, length, length-append, map, take, drop, get_or, Some, refl, sym, ap, ◌∙◌, add-one}
use Rattle.std.specs.List.{slice_get}
use Rattle.std.specs.Option.{option_map}
use Rattle.std.proofs.Math.Seq.{take-length, drop-append_seam, take-append_seam, get_or-append_seam}
use Rattle.std.proofs.lemmas.List.{append_assoc, drop-map, take-map, take-append-le, get_or-drop, get_or-take, length-drop, length-take}
use Rattle.std.proofs.lemmas.Option.{slice_get-get_or}
use Rattle.sieve_variables.specs.Part.{Part}
use Rattle.packed_strings.specs.Joined.{Lists, EndAt, between, cut, start, lists_with, lists_plus, list_in}

-- the place where item `i` begins, if the first begins at a given place
abbrev begin : ℕ → List ℕ → ℕ → ℕ
begin from ends zero = from
begin from ends (suc i) = get_or ends i 0

begin_is : (ends : List ℕ) (i : ℕ) → start ends i ≡ begin 0 ends i
begin_is ends zero = refl
begin_is ends (suc i) = refl

begin_after : (end : ℕ) (ends : List ℕ) (i : ℕ) → get_or (end ∷ ends) i 0 ≡ begin end ends i
begin_after end ends zero = refl
begin_after end ends (suc i) = refl

nothing_after : {X : Type 0} (n : ℕ) → drop {A = X} n [] ≡ []
nothing_after zero = refl
nothing_after (suc n) = refl

cut_at : {X : Type 0} (from : ℕ) (ends : List ℕ) (xs : List X) (i : ℕ) → between (begin from ends i) (get_or ends i 0) xs ≡ get_or (cut from ends xs) i []
cut_at from [] xs zero = nothing_after from
cut_at from [] xs (suc i) = nothing_after 0
cut_at from (end ∷ ends) xs zero = refl
cut_at from (end ∷ ends) xs (suc i) = ap (λ n. between n (get_or ends i 0) xs) (begin_after end ends i) ∙ cut_at end ends xs i

-- the items between two ends are the list that is cut there
pub item_at : {X : Type 0} (ends : List ℕ) (xs : List X) (i : ℕ) → between (start ends i) (get_or ends i 0) xs ≡ get_or (cut 0 ends xs) i []
item_at ends xs i = ap (λ n. between n (get_or ends i 0) xs) (begin_is ends i) ∙ cut_at 0 ends xs i

pub cut_length : {X : Type 0} (from : ℕ) (ends : List ℕ) (xs : List X) → length (cut from ends xs) ≡ length ends
cut_length from [] xs = refl
cut_length from (end ∷ ends) xs = ap suc (cut_length end ends xs)

-- cutting with one list more, where the others end, gives that list last
cut_more : {X : Type 0} (from : ℕ) (ends : List ℕ) (xs ys : List X) → EndAt from ends (length xs) → cut from (ends ++ length (xs ++ ys) ∷ []) (xs ++ ys) ≡ cut from ends xs ++ ys ∷ []
cut_more from [] xs ys e = ap (λ l. l ∷ []) (ap (drop from) (take-length (xs ++ ys)) ∙ ap (λ n. drop n (xs ++ ys)) e ∙ drop-append_seam xs ys)
cut_more from (end ∷ ends) xs ys e = ap (λ l. drop from l ∷ cut end (ends ++ length (xs ++ ys) ∷ []) (xs ++ ys)) (take-append-le end xs ys e.0) ∙ ap (λ l. between from end xs ∷ l) (cut_more end ends xs ys e.1)

end_more : (from : ℕ) (ends : List ℕ) (n m : ℕ) → n ≤ m → EndAt from ends n → EndAt from (ends ++ m ∷ []) m
end_more from [] n m le e = (omega arith, refl)
end_more from (end ∷ ends) n m le e = (let below = e.0 in omega (arith, below, le), end_more end ends n m le e.1)

module _ {X : Type 0} (ends ends' : List ℕ) (xs xs' ys : List X) (old : EndAt 0 ends (length xs)) (items : xs' ≡ xs ++ ys) (marks : ends' ≡ ends ++ length (xs ++ ys) ∷ []) where
  -- with one list more after the others, these are the lists
  pub joined_more : cut 0 ends' xs' ≡ cut 0 ends xs ++ ys ∷ []
  joined_more = ap (λ e. cut 0 e xs') marks ∙ ap (cut 0 (ends ++ length (xs ++ ys) ∷ [])) items ∙ cut_more 0 ends xs ys old

  -- and the last ends where the items do
  pub joined_end : EndAt 0 ends' (length xs')
  joined_end = subst (λ e. EndAt 0 e (length xs')) (sym marks) (subst (λ l. EndAt 0 (ends ++ length (xs ++ ys) ∷ []) (length l)) (sym items) (end_more 0 ends (length xs) (length (xs ++ ys)) (omega (arith, length-append xs ys)) old))

-- the place where the next list begins
last_end : (from : ℕ) (ends more : List ℕ) (n : ℕ) → EndAt from ends n → begin from (ends ++ more) (length ends) ≡ n
last_end from [] more n e = e
last_end from (end ∷ ends) more n e = begin_after end (ends ++ more) (length ends) ∙ last_end end ends more n e.1

-- the last list stays as it is, whatever follows it
pub list_kept : (lists more : Lists) (texts : List (List Part)) → EndAt 0 lists.ends (length lists.strings) → list_in (lists_plus (lists_with lists texts) more) (length lists.ends) ≡ texts
list_kept lists more texts e =
    let xs = lists.strings in let n = length (xs ++ texts) in
    let ends = (lists.ends ++ n ∷ []) ++ more.ends in
    let strings = (xs ++ texts) ++ more.strings in
    let split = append_assoc lists.ends (n ∷ []) more.ends in
    let from = begin_is ends (length lists.ends) ∙ ap (λ l. begin 0 l (length lists.ends)) split ∙ last_end 0 lists.ends (n ∷ more.ends) (length xs) e in
    let to = ap (λ l. get_or l (length lists.ends) 0) split ∙ get_or-append_seam lists.ends n more.ends 0 in
    ap (λ a. between a (get_or ends (length lists.ends) 0) strings) from
    ∙ ap (λ b. between (length xs) b strings) to
    ∙ ap (drop (length xs)) (take-append_seam (xs ++ texts) more.strings)
    ∙ drop-append_seam xs texts

-- an end is at most the number of the items
end_within : (from : ℕ) (ends : List ℕ) (n i : ℕ) → EndAt from ends n → i < length ends → get_or ends i 0 ≤ n
end_within from [] n i e below = absurd (omega (arith, below))
end_within from (end ∷ ends) n zero e below = e.0
end_within from (end ∷ ends) n (suc i) e below = end_within end ends n i e.1 (omega (arith, below))

get_front : {X : Type 0} (xs ys : List X) (i : ℕ) (d : X) → i < length xs → get_or (xs ++ ys) i d ≡ get_or xs i d
get_front [] ys i d below = absurd (omega (arith, below))
get_front (x ∷ xs) ys zero d below = refl
get_front (x ∷ xs) ys (suc i) d below = get_front xs ys i d (omega (arith, below))

start_front : (ends more : List ℕ) (i : ℕ) → i < length ends → start (ends ++ more) i ≡ start ends i
start_front ends more zero below = refl
start_front ends more (suc i) below = get_front ends more i 0 (omega (arith, below))

-- a list stays as it is, whatever lies after the last
pub list_stays : (lists more : Lists) (i : ℕ) → EndAt 0 lists.ends (length lists.strings) → i < length lists.ends → list_in (lists_plus lists more) i ≡ list_in lists i
list_stays lists more i e below =
    let strings = lists.strings ++ more.strings in
    ap (λ a. between a (get_or (lists.ends ++ more.ends) i 0) strings) (start_front lists.ends more.ends i below)
    ∙ ap (λ b. between (start lists.ends i) b strings) (get_front lists.ends more.ends i 0 below)
    ∙ ap (drop (start lists.ends i)) (take-append-le (get_or lists.ends i 0) lists.strings more.strings (end_within 0 lists.ends (length lists.strings) i e below))

-- a function applied to each item gives the same between two places as applied to the items there
pub between_map : {X Y : Type 0} (f : X → Y) (from to : ℕ) (xs : List X) → between from to (map f xs) ≡ map f (between from to xs)
between_map f from to xs = ap (drop from) (take-map f to xs) ∙ drop-map f from (take to xs)

-- an item between two places lies among all
pub item_between : {X : Type 0} (from to i : ℕ) (xs : List X) (d : X) → i < length (between from to xs) → slice_get (between from to xs) i ≡ Some (get_or xs (from + i) d)
item_between from to i xs d below =
    let within : from + i < to = omega (arith, below, length-drop from (take to xs), length-take to xs) in
    slice_get-get_or (between from to xs) i d below ∙ ap Some (get_or-drop from (take to xs) i d ∙ get_or-take to xs (from + i) d within)

there : {X : Type 0} (xs : List X) (i : ℕ) (x : X) → slice_get xs i ≡ Some x → drop i xs ≡ x ∷ drop (suc i) xs
there [] i x at = cc
there (y ∷ ys) zero x at = let e : y ≡ x = cc in ap (λ y. y ∷ ys) e
there (y ∷ ys) (suc i) x at = there ys i x at

-- from a place on, a list is the item there and then the items after it
pub drop_at : {X : Type 0} (xs : List X) (i : ℕ) (x : X) → slice_get xs i ≡ Some x → drop i xs ≡ x ∷ drop (i + 1) xs
drop_at xs i x at = there xs i x at ∙ ap (λ n. x ∷ drop n xs) (sym (add-one i))

-- lists that are the same after an element are the same from it on
pub same_from : {X : Type 0} (xs ys : List X) (i : ℕ) (x y : X) → slice_get xs i ≡ Some x → slice_get ys i ≡ Some y → x ≡ y → drop (i + 1) xs ≡ drop (i + 1) ys → drop i xs ≡ drop i ys
same_from xs ys i x y one other is after = drop_at xs i x one ∙ ap (λ z. z ∷ drop (i + 1) xs) is ∙ ap (λ zs. y ∷ zs) after ∙ sym (drop_at ys i y other)

-- the item at a place, after a function is applied to each item
pub get_map : {X Y : Type 0} (f : X → Y) (xs : List X) (i : ℕ) (x : X) → slice_get xs i ≡ Some x → slice_get (map f xs) i ≡ Some (f x)
get_map f [] i x at = cc
get_map f (y ∷ ys) zero x at = ap (option_map f) at
get_map f (y ∷ ys) (suc i) x at = get_map f ys i x at
