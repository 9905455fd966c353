-- The code of a script does what the script does, and its jumps go forward.
use Rattle.std.proofs.Common.{◌≡◌, ℕ, zero, suc, ◌+◌, ◌-◌, ◌<◌, ◌≤◌, Bool, true, false, not, [], ◌∷◌, ◌++◌, length, take, drop, map, Some, None, refl, sym, ap, ◌∙◌, arith, append_assoc, length-append, length-take-le, take-append-drop}
use Rattle.std.proofs.lemmas.List.{length-map}
use Rattle.std.specs.Prelude.{slice_get}
use Rattle.sieve_script.specs.Script.{Commands}
use Rattle.sieve_code.specs.Choice.{Tail, AllGoForward, code_of, placed, tail_of}
use Rattle.sieve_code.specs.Operation.{Operation, set_op, invert_op, test_op, jump_op, jump_if_op, act_op, stop_op, return_op, target_of, targeting}
use Rattle.sieve_code.specs.Walk.{at_end, asked, acted, at_limit, step, walk_from, code_walk, script_walk}
use Rattle.sieve_code.specs.view.Branches.{last}
use Rattle.sieve_code.proofs.Tails.{Forward, tail_step, tail_walk, walks_none}
use Rattle.sieve_code.proofs.Blocks.{Goes, commands_code}

-- PLACES

-- an operation with its target as a place, in code of `count` operations
abbrev put : ℕ → Operation → Operation
put count = targeting (λ left. count - left)

got_at : (f : Operation → Operation) (front : Tail) (op : Operation) (rest : Tail) → slice_get (map f (front ++ op ∷ rest)) (length front) ≡ Some (f op)
got_at f [] op rest = refl
got_at f (x ∷ front) op rest = got_at f front op rest

got_past : (f : Operation → Operation) (front : Tail) → slice_get (map f (front ++ [])) (length front) ≡ None
got_past f [] = refl
got_past f (x ∷ front) = got_past f front

forward_drop : (k : ℕ) (tail : Tail) → Forward tail → Forward (drop k tail)
forward_drop zero tail f = f
forward_drop (suc k) [] f = f
forward_drop (suc k) (op ∷ rest) f = forward_drop k rest f.1

-- from a place on, code does what its tail there does
abbrev Same : ℕ → Type 0
Same n = (front tail : Tail) (r : Bool) → Forward tail → walk_from (placed (front ++ tail)) n (length front) r ≡ tail_walk n tail r

-- from the next place on, code does what the rest of its tail does
same_next : (n : ℕ) → Same n → (front : Tail) (op : Operation) (rest : Tail) (r : Bool) → Forward rest → walk_from (placed (front ++ op ∷ rest)) n (length front + 1) r ≡ tail_walk n rest r
same_next n same front op rest r f =
    let place : length front + 1 ≡ length (front ++ op ∷ []) = omega (arith, length-append front (op ∷ [])) in
    ap (λ p. walk_from (placed (front ++ op ∷ rest)) n p r) place
    ∙ ap (λ t. walk_from (placed t) n (length (front ++ op ∷ [])) r) (sym (append_assoc front (op ∷ []) rest))
    ∙ same (front ++ op ∷ []) rest r f

length_take : (k : ℕ) (tail : Tail) → k ≤ length tail → length (take k tail) ≡ k
length_take k tail le = length-take-le k tail le

-- from a target on, code does what the tail there does
same_target : (n : ℕ) → Same n → (front : Tail) (op : Operation) (rest : Tail) (r : Bool) (left : ℕ) → left ≤ length rest → Forward rest → walk_from (placed (front ++ op ∷ rest)) n (length (front ++ op ∷ rest) - left) r ≡ tail_walk n (last left rest) r
same_target n same front op rest r left le f =
    let k = length rest - left in
    let taken : length (take (length rest - left) rest) ≡ length rest - left = length_take (length rest - left) rest (omega arith) in
    let place : length (front ++ op ∷ rest) - left ≡ length (front ++ op ∷ take k rest) = omega (arith, taken, length-append front (op ∷ rest), length-append front (op ∷ take k rest)) in
    let whole : front ++ op ∷ rest ≡ (front ++ op ∷ take k rest) ++ drop k rest =
    ap (λ t. front ++ op ∷ t) (sym (take-append-drop k rest)) ∙ sym (append_assoc front (op ∷ take k rest) (drop k rest)) in
    ap (λ p. walk_from (placed (front ++ op ∷ rest)) n p r) place
    ∙ ap (λ t. walk_from (placed t) n (length (front ++ op ∷ take k rest)) r) whole
    ∙ same (front ++ op ∷ take k rest) (drop k rest) r (forward_drop k rest f)

-- one operation does the same at its place in the code as before its tail
same_step : (n : ℕ) → Same n → (front : Tail) (op : Operation) (rest : Tail) (r : Bool) → Forward (op ∷ rest) → step (walk_from (placed (front ++ op ∷ rest)) n) (Some (put (length (front ++ op ∷ rest)) op)) (length front) r ≡ tail_step (tail_walk n) (op ∷ rest) r
same_step n same front (set_op truth) rest r f = same_next n same front (set_op truth) rest truth f.1
same_step n same front invert_op rest r f = same_next n same front invert_op rest (not r) f.1
same_step n same front (test_op ask) rest r f =
    ap (λ w. asked ask w (walk_from (placed (front ++ test_op ask ∷ rest)) n (length front + 1) false)) (same_next n same front (test_op ask) rest true f.1)
    ∙ ap (λ w. asked ask (tail_walk n rest true) w) (same_next n same front (test_op ask) rest false f.1)
same_step n same front (jump_op left) rest r f = same_target n same front (jump_op left) rest r left (f.0 left refl) f.1
same_step n same front (jump_if_op true left) rest true f = same_target n same front (jump_if_op true left) rest true left (f.0 left refl) f.1
same_step n same front (jump_if_op true left) rest false f = same_next n same front (jump_if_op true left) rest false f.1
same_step n same front (jump_if_op false left) rest true f = same_next n same front (jump_if_op false left) rest true f.1
same_step n same front (jump_if_op false left) rest false f = same_target n same front (jump_if_op false left) rest false left (f.0 left refl) f.1
same_step n same front (act_op leaf line) rest r f = ap (acted leaf line) (same_next n same front (act_op leaf line) rest r f.1)
same_step n same front stop_op rest r f = refl
same_step n same front return_op rest r f = refl

same_walk : (n : ℕ) → Same n
unfolding walk_from placed
same_walk zero front [] r f = ap at_limit (got_past (put (length (front ++ []))) front)
same_walk zero front (op ∷ rest) r f = ap at_limit (got_at (put (length (front ++ op ∷ rest))) front op rest)
same_walk (suc n) front [] r f = ap (λ o. step (walk_from (placed (front ++ [])) n) o (length front) r) (got_past (put (length (front ++ []))) front)
same_walk (suc n) front (op ∷ rest) r f =
    ap (λ o. step (walk_from (placed (front ++ op ∷ rest)) n) o (length front) r) (got_at (put (length (front ++ op ∷ rest))) front op rest)
    ∙ same_step n (same_walk n) front op rest r f

-- SCRIPTS

goes_of : (script : Commands) → Goes (tail_of script) (script_walk script)
goes_of script = ((commands_code script).at [] at_end (record { forward = tt; walks = walks_none })).goes

length_placed : (tail : Tail) → length (placed tail) ≡ length tail
unfolding placed
length_placed tail = length-map tail (put (length tail))

pub code_walks : (script : Commands) → code_walk (code_of script) (length (code_of script)) ≡ script_walk script
code_walks script =
    let goes = goes_of script in
    let tail = tail_of script in
    ap (λ n. code_walk (code_of script) n) (length_placed tail)
    ∙ same_walk (length tail) [] tail false goes.forward
    ∙ goes.walks.by (length tail) (omega arith) false

-- The target of a jump before a tail is after the jump. It is counted from the end of the code.
jump_at : (count : ℕ) (op : Operation) (rest : Tail) → Forward (op ∷ rest) → (target : ℕ) → target_of (put count op) ≡ Some target → (left : ℕ) × (target ≡ count - left) × (left < length (op ∷ rest))
jump_at count (set_op truth) rest f target is = absurd cc
jump_at count invert_op rest f target is = absurd cc
jump_at count (test_op ask) rest f target is = absurd cc
jump_at count (jump_op left) rest f target is = (left, cc, omega (arith, f.0 left refl))
jump_at count (jump_if_op truth left) rest f target is = (left, cc, omega (arith, f.0 left refl))
jump_at count (act_op leaf line) rest f target is = absurd cc
jump_at count stop_op rest f target is = absurd cc
jump_at count return_op rest f target is = absurd cc

same_op : (op other : Operation) (target : ℕ) → Some other ≡ Some op → target_of op ≡ Some target → target_of other ≡ Some target
same_op op other target is has = let e : other ≡ op = cc in ap target_of e ∙ has

-- The target of a jump at a place in a tail is after that place. It is counted from the end of the
-- code.
jump_forward : (count : ℕ) (tail : Tail) → Forward tail → (place : ℕ) (op : Operation) (target : ℕ) → slice_get (map (put count) tail) place ≡ Some op → target_of op ≡ Some target → (left : ℕ) × (target ≡ count - left) × (left + place < length tail)
jump_forward count [] f place op target is has = absurd cc
jump_forward count (o ∷ rest) f zero op target is has =
    let j = jump_at count o rest f target (same_op op (put count o) target is has) in
    (j.0, j.1, omega (arith, j.2))
jump_forward count (o ∷ rest) f (suc place) op target is has =
    let j = jump_forward count rest f.1 place op target is has in
    (j.0, j.1, omega (arith, j.2))

pub code_forward : (script : Commands) → AllGoForward (code_of script)
unfolding placed
code_forward script place target op is has =
    let tail = tail_of script in
    let j = jump_forward (length tail) tail (goes_of script).forward place op target is has in
    let counted : length (map (put (length tail)) tail) ≡ length tail = length-map tail (put (length tail)) in
    (omega (arith, j.1, j.2), omega (arith, j.1, j.2, counted))

pub ruleset code_laws = (code_walks, code_forward)
