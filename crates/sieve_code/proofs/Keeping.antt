-- Items that are kept in pools stay at their places.
use Rattle.std.proofs.Common.{◌≡◌, ℕ, zero, suc, true, false, List, [], ◌∷◌, ◌++◌, length, map, get_or, slice_get, Option, Some, refl, sym, ap, ◌∙◌, subst}
use Rattle.std.proofs.Math.Seq.{get_or-append_seam}
use Rattle.std.proofs.lemmas.List.{append-nil, append_assoc}
use Rattle.packed_strings.specs.Joined.{Lists, list_in, lists_plus, lists_with, no_lists}
use Rattle.sieve_script.specs.Reading as reading
use Rattle.sieve_script.specs.declared.reading.Vacation.{Vacation}
use Rattle.sieve_variables.specs.Part.{Part}
use Rattle.sieve_script.specs.declared.reading.Ask.TheVariants as asked
use Rattle.sieve_code.specs.Pool.{PoolGrows, Keeps, Kept, PackedAsk, PackedLeaf, Pool, ask_at, ask_in, given_list, given_string, leaf_at, leaf_in, leaf_of, no_pool, plus, vacation_in}
use Rattle.sieve_code.specs.Operation.{Operation}
use Rattle.sieve_code.specs.view.Operation.{is_plain, op_in, plain_as}
use Rattle.sieve_code.specs.declared.operation.PackedOperation.{PackedOperation}
use Rattle.sieve_code.specs.declared.operation.PackedOperation.TheVariants as op

lists_none : (lists : Lists) → lists_plus lists no_lists ≡ lists
lists_none lists =
    ap (λ (s : List (List Part)). record { strings = s; ends = lists.ends ++ [] }) (append-nil lists.strings)
    ∙ ap (λ (e : List ℕ). record { strings = lists.strings; ends = e }) (append-nil lists.ends)

-- a pool with nothing more after it is the same pool
pub plus_none : (p : Pool) → plus p no_pool ≡ p
plus_none p =
    ap (λ (s : List (List Part)). record (plus p no_pool) { strings = s }) (append-nil p.strings)
    ∙ ap (λ (l : Lists). record (plus p no_pool) { strings = p.strings; lists = l }) (lists_none p.lists)
    ∙ ap (λ (n : Lists). record (plus p no_pool) { strings = p.strings; lists = p.lists; names = n }) (lists_none p.names)
    ∙ ap (λ (a : List PackedAsk). record p { asks = a; leaves = p.leaves ++ [] }) (append-nil p.asks)
    ∙ ap (λ (l : List PackedLeaf). record p { leaves = l }) (append-nil p.leaves)

pub grows_self : (p : Pool) → PoolGrows p p
grows_self p = λ more. (more, refl)

pub grows_on : (p q r : Pool) → PoolGrows p q → PoolGrows q r → PoolGrows p r
grows_on p q r first second = λ more. let two = second more in let one = first two.0 in (one.0, two.1 ∙ one.1)

-- an item that is found is still found when the pool has grown
pub keeps_on : {X : Type 0} (p q : Pool) (find : Pool → X) (x : X) → PoolGrows p q → Keeps p find x → Keeps q find x
keeps_on p q find x grows keeps = λ more. let r = grows more in ap find r.1 ∙ keeps r.0

-- a value that needs no pool is found in each
pub kept_still : {X : Type 0} (p : Pool) (x : X) → Kept p p (λ q. x) x
kept_still p x = record { grows = grows_self p; keeps = λ more. refl }

-- a value that is made of two found values is found
pub kept_two : {X Y Z : Type 0} (g : X → Y → Z) (p q r : Pool) (f : Pool → X) (h : Pool → Y) (x : X) (y : Y) → Kept p q f x → Kept q r h y → Kept p r (λ s. g (f s) (h s)) (g x y)
kept_two g p q r f h x y first second = record {
  grows = grows_on p q r first.grows second.grows;
  keeps = λ more. ap (λ a. g a (h (plus r more))) (keeps_on q r f x second.grows first.keeps more) ∙ ap (g x) (second.keeps more);
}

-- a value that is made with one more found value is found
pub kept_then : {X Y : Type 0} (p q r : Pool) (f : Pool → X → Y) (h : Pool → X) (g : X → Y) (x : X) → Kept p q f g → Kept q r h x → Kept p r (λ s. f s (h s)) (g x)
kept_then p q r f h g x first second = kept_two (λ g x. g x) p q r f h g x first second

-- a value that is made of a found value is found
pub kept_as : {X Y : Type 0} (g : X → Y) (p q : Pool) (f : Pool → X) (x : X) → Kept p q f x → Kept p q (λ s. g (f s)) (g x)
kept_as g p q f x kept = record { grows = kept.grows; keeps = λ more. ap g (kept.keeps more) }

-- ADDED ITEMS

no_plain : false ≡ true → ⊥
no_plain e = cc

module _ (p q : Pool) (place : ℕ) where
  pub string_kept : (string : List Part) → place ≡ length p.strings → q ≡ record p { strings = p.strings ++ string ∷ [] } → Kept p q (λ r. get_or r.strings place []) string
  string_kept string at is = subst (λ (q : Pool). Kept p q (λ r. get_or r.strings place []) string) (sym is) (record {
    grows = λ more. (record more { strings = string ∷ more.strings }, ap (λ (s : List (List Part)). record (plus p more) { strings = s }) (append_assoc p.strings (string ∷ []) more.strings));
    keeps = λ more. ap (λ l. get_or l place []) (append_assoc p.strings (string ∷ []) more.strings) ∙ ap (λ n. get_or (p.strings ++ string ∷ more.strings) n []) at ∙ get_or-append_seam p.strings string more.strings [];
  })

lists_more : (lists more : Lists) (texts : List (List Part)) → lists_plus (lists_with lists texts) more ≡ lists_plus lists (record { strings = texts ++ more.strings; ends = length (lists.strings ++ texts) ∷ more.ends })
lists_more lists more texts =
    ap (λ (s : List (List Part)). record { strings = s; ends = (lists.ends ++ length (lists.strings ++ texts) ∷ []) ++ more.ends }) (append_assoc lists.strings texts more.strings)
    ∙ ap (λ (e : List ℕ). record { strings = lists.strings ++ (texts ++ more.strings); ends = e }) (append_assoc lists.ends (length (lists.strings ++ texts) ∷ []) more.ends)

module _ (p q : Pool) (place : ℕ) (texts : List (List Part)) where
  pub list_kept : place ≡ length p.lists.ends → q ≡ record p { lists = lists_with p.lists texts } → ((more : Lists) → list_in (lists_plus (lists_with p.lists texts) more) (length p.lists.ends) ≡ texts) → Kept p q (λ r. list_in r.lists place) texts
  list_kept at is there = subst (λ (q : Pool). Kept p q (λ r. list_in r.lists place) texts) (sym is) (record {
    grows = λ more. (record more { lists = record { strings = texts ++ more.lists.strings; ends = length (p.lists.strings ++ texts) ∷ more.lists.ends } }, ap (λ (l : Lists). record (plus p more) { lists = l }) (lists_more p.lists more.lists texts));
    keeps = λ more. ap (list_in (lists_plus (lists_with p.lists texts) more.lists)) at ∙ there more.lists;
  })

  pub names_kept : place ≡ length p.names.ends → q ≡ record p { names = lists_with p.names texts } → ((more : Lists) → list_in (lists_plus (lists_with p.names texts) more) (length p.names.ends) ≡ texts) → Kept p q (λ r. list_in r.names place) texts
  names_kept at is there = subst (λ (q : Pool). Kept p q (λ r. list_in r.names place) texts) (sym is) (record {
    grows = λ more. (record more { names = record { strings = texts ++ more.names.strings; ends = length (p.names.strings ++ texts) ∷ more.names.ends } }, ap (λ (l : Lists). record (plus p more) { names = l }) (lists_more p.names more.names texts));
    keeps = λ more. ap (list_in (lists_plus (lists_with p.names texts) more.names)) at ∙ there more.names;
  })

-- a list that is the same as the last is found at the last one's place
pub list_shared : (p : Pool) (place : ℕ) (texts : List (List Part)) → ((more : Lists) → list_in (lists_plus p.lists more) place ≡ texts) → Kept p p (λ r. list_in r.lists place) texts
list_shared p place texts there = record { grows = grows_self p; keeps = λ more. there more.lists }

pub names_shared : (p : Pool) (place : ℕ) (texts : List (List Part)) → ((more : Lists) → list_in (lists_plus p.names more) place ≡ texts) → Kept p p (λ r. list_in r.names place) texts
names_shared p place texts there = record { grows = grows_self p; keeps = λ more. there more.names }

-- QUESTIONS AND COMMANDS

-- an item that is there is still there with more after it
there : {X : Type 0} (xs more : List X) (n : ℕ) (x : X) → slice_get xs n ≡ Some x → slice_get (xs ++ more) n ≡ Some x
there [] more n x is = cc
there (y ∷ xs) more zero x is = is
there (y ∷ xs) more (suc n) x is = there xs more n x is

-- an item that is added is there with more after it
added : {X : Type 0} (xs more : List X) (n : ℕ) (x d : X) → n ≡ length xs → get_or ((xs ++ x ∷ []) ++ more) n d ≡ x
added xs more n x d at = ap (λ l. get_or l n d) (append_assoc xs (x ∷ []) more) ∙ ap (λ n. get_or (xs ++ x ∷ more) n d) at ∙ get_or-append_seam xs x more d

there_or : {X : Type 0} (xs more : List X) (n : ℕ) (x d : X) → slice_get xs n ≡ Some x → get_or (xs ++ more) n d ≡ x
there_or [] more n x d is = cc
there_or (y ∷ xs) more zero x d is = cc
there_or (y ∷ xs) more (suc n) x d is = there_or xs more n x d is

pub string_shared : (p : Pool) (place : ℕ) (string : List Part) → slice_get p.strings place ≡ Some string → Kept p p (λ r. get_or r.strings place []) string
string_shared p place string at = record { grows = grows_self p; keeps = λ more. there_or p.strings more.strings place string [] at }

seam : {X : Type 0} (xs : List X) (x : X) (ys : List X) → slice_get (xs ++ x ∷ ys) (length xs) ≡ Some x
seam [] x ys = refl
seam (y ∷ xs) x ys = seam xs x ys

added_get : {X : Type 0} (xs more : List X) (n : ℕ) (x : X) → n ≡ length xs → slice_get ((xs ++ x ∷ []) ++ more) n ≡ Some x
added_get xs more n x at = ap (λ l. slice_get l n) (append_assoc xs (x ∷ []) more) ∙ ap (slice_get (xs ++ x ∷ more)) at ∙ seam xs x more

module _ (p q r : Pool) (place : ℕ) where
  pub ask_kept : (ask : PackedAsk) (x : reading.Ask) → place ≡ length q.asks → r ≡ record q { asks = q.asks ++ ask ∷ [] } → Kept p q (λ s. ask_in s ask) x → Kept p r (λ s. ask_at s place) x
  ask_kept ask x at is kept = subst (λ (r : Pool). Kept p r (λ s. ask_at s place) x) (sym is) (record {
    grows = λ more. let rest = kept.grows (record more { asks = ask ∷ more.asks }) in (rest.0, ap (λ (a : List PackedAsk). record (plus q more) { asks = a }) (append_assoc q.asks (ask ∷ []) more.asks) ∙ rest.1);
    keeps = λ more. ap (ask_in (plus q more)) (added q.asks more.asks place ask asked.Duplicate at) ∙ kept.keeps more;
  })

  pub leaf_kept : (leaf : PackedLeaf) (x : reading.Leaf) → place ≡ length q.leaves → r ≡ record q { leaves = q.leaves ++ leaf ∷ [] } → Kept p q (λ s. leaf_in s leaf) x → Kept p r (λ s. leaf_at s place) x
  leaf_kept leaf x at is kept = subst (λ (r : Pool). Kept p r (λ s. leaf_at s place) x) (sym is) (record {
    grows = λ more. let rest = kept.grows (record more { leaves = leaf ∷ more.leaves }) in (rest.0, ap (λ (l : List PackedLeaf). record (plus q more) { leaves = l }) (append_assoc q.leaves (leaf ∷ []) more.leaves) ∙ rest.1);
    keeps = λ more. ap (leaf_of (plus q more)) (added_get q.leaves more.leaves place leaf at) ∙ kept.keeps more;
  })

-- a question that is at a place already is found there
pub ask_shared : (p q : Pool) (place : ℕ) (ask : PackedAsk) (x : reading.Ask) → slice_get q.asks place ≡ Some ask → Kept p q (λ s. ask_in s ask) x → Kept p q (λ s. ask_at s place) x
ask_shared p q place ask x at kept = record {
  grows = kept.grows;
  keeps = λ more. ap (ask_in (plus q more)) (there_or q.asks more.asks place ask asked.Duplicate at) ∙ kept.keeps more;
}

pub leaf_shared : (p q : Pool) (place : ℕ) (leaf : PackedLeaf) (x : reading.Leaf) → slice_get q.leaves place ≡ Some leaf → Kept p q (λ s. leaf_in s leaf) x → Kept p q (λ s. leaf_at s place) x
leaf_shared p q place leaf x at kept = record {
  grows = kept.grows;
  keeps = λ more. ap (leaf_of (plus q more)) (there q.leaves more.leaves place leaf at) ∙ kept.keeps more;
}

-- VACATIONS

abbrev said : Vacation ℕ ℕ → List Part → (subject from : Option (List Part)) → (addresses : Option (List (List Part))) → (handle : Option (List Part)) → reading.Vacation
said packed reason subject from addresses handle = record { reason = reason; days = packed.days; subject = subject; from = from; addresses = addresses; mime = packed.mime; handle = handle }

-- the strings and the list of a vacation are kept one after another
module _ (p q r s t u : Pool) (packed : Vacation ℕ ℕ) (reason : List Part) (subject from : Option (List Part)) (addresses : Option (List (List Part))) (handle : Option (List Part)) where
  pub said_kept :
      Kept p q (λ x. get_or x.strings packed.reason []) reason → Kept q r (λ x. given_string x packed.subject) subject
      → Kept r s (λ x. given_string x packed.from) from → Kept s t (λ x. given_list x packed.addresses) addresses
      → Kept t u (λ x. given_string x packed.handle) handle
      → Kept p u (λ x. vacation_in x packed) (said packed reason subject from addresses handle)
  said_kept first second third fourth fifth =
      let two = kept_two (said packed) p q r _ _ reason subject first second in
      let three = kept_then p r s _ _ _ from two third in
      let four = kept_then p s t _ _ _ addresses three fourth in
      kept_then p t u _ _ _ handle four fifth

-- OPERATIONS

-- operations of a pool are the same in each pool with more after it
abbrev pub Stays : Pool → List PackedOperation → Type 0
Stays pool ops = Keeps pool (λ p. map (op_in p) ops) (map (op_in pool) ops)

-- an operation that neither asks nor acts is the same in each pool
pub plain_in : (pool : Pool) (o : PackedOperation) → is_plain o ≡ true → op_in pool o ≡ plain_as o
plain_in pool op.True plain = refl
plain_in pool op.False plain = refl
plain_in pool op.Not plain = refl
plain_in pool (op.Jump left) plain = refl
plain_in pool (op.JumpIfFalse left) plain = refl
plain_in pool (op.JumpIfTrue left) plain = refl
plain_in pool op.Stop plain = refl
plain_in pool op.Return plain = refl
plain_in pool (op.Test place) plain = absurd (no_plain plain)
plain_in pool (op.Act place line) plain = absurd (no_plain plain)

module _ (pool : Pool) (ops ops' : List PackedOperation) (stays : Stays pool ops) where
  pub stays_same : ops' ≡ ops → Stays pool ops'
  stays_same is = subst (λ (o : List PackedOperation). Stays pool o) (sym is) stays

  pub stays_plain : (op : PackedOperation) → is_plain op ≡ true → ops' ≡ op ∷ ops → Stays pool ops'
  stays_plain op plain is = subst (λ (o : List PackedOperation). Stays pool o) (sym is) (λ more. ap (λ o. o ∷ map (op_in (plus pool more)) ops) (plain_in (plus pool more) op plain ∙ sym (plain_in pool op plain)) ∙ ap (λ o. op_in pool op ∷ o) (stays more))

-- operations of a pool that has grown
module _ (p q : Pool) (ops : List PackedOperation) (grows : PoolGrows p q) (stays : Stays p ops) where
  pub ops_grown : map (op_in q) ops ≡ map (op_in p) ops
  ops_grown = let r = grows no_pool in ap (λ x. map (op_in x) ops) (sym (plus_none q) ∙ r.1) ∙ stays r.0

  pub stays_grown : Stays q ops
  stays_grown = λ more. let r = grows more in ap (λ x. map (op_in x) ops) r.1 ∙ stays r.0 ∙ sym ops_grown

module _ (p q : Pool) (ops ops' : List PackedOperation) (op : PackedOperation) (o : Operation) (kept : Kept p q (λ r. op_in r op) o) (stays : Stays p ops) (is : ops' ≡ op ∷ ops) where
  -- With one operation more in front, whose places are kept, operations are that one and then the
  -- old ones.
  pub ops_more : map (op_in q) ops' ≡ o ∷ map (op_in p) ops
  ops_more =
      ap (map (op_in q)) is
      ∙ ap (λ x. op_in x op ∷ map (op_in q) ops) (sym (plus_none q)) ∙ ap (λ x. x ∷ map (op_in q) ops) (kept.keeps no_pool)
      ∙ ap (λ l. o ∷ l) (ops_grown p q ops kept.grows stays)

  pub stays_more : Stays q ops'
  stays_more = subst (λ (l : List PackedOperation). Stays q l) (sym is) (λ more.
      ap (λ x. x ∷ map (op_in (plus q more)) ops) (kept.keeps more ∙ sym (kept.keeps no_pool) ∙ ap (λ x. op_in x op) (plus_none q))
      ∙ ap (λ l. op_in q op ∷ l) (stays_grown p q ops kept.grows stays more))
