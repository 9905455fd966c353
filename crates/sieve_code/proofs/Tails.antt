-- Walks over tails of code.
use Rattle.std.proofs.Common.{◌≡◌, ℕ, zero, suc, ◌-◌, ◌≤◌, Bool, true, false, not, if◌then◌else◌, [], ◌∷◌, ◌++◌, length, drop, Some, None, refl, sym, ap, ◌∙◌, arith, append_assoc, length-append}
use Rattle.sieve_script.specs.Reading.{Ask, Leaf}
use Rattle.sieve_code.specs.Choice.{Tail}
use Rattle.sieve_code.specs.Operation.{Operation, set_op, invert_op, test_op, jump_op, jump_if_op, act_op, stop_op, return_op, target_of}
use Rattle.sieve_code.specs.Walk.{Walk, at_end, by_stop, by_return, cut_off, asked, acted}
use Rattle.sieve_code.specs.view.Branches.{last}

-- the step of the first operation of a tail
abbrev pub tail_step : (Tail → Bool → Walk) → Tail → Bool → Walk
tail_step go [] r = at_end
tail_step go (set_op truth ∷ rest) r = go rest truth
tail_step go (invert_op ∷ rest) r = go rest (not r)
tail_step go (test_op ask ∷ rest) r = asked ask (go rest true) (go rest false)
tail_step go (jump_op left ∷ rest) r = go (last left rest) r
tail_step go (jump_if_op true left ∷ rest) r = if r then go (last left rest) r else go rest r
tail_step go (jump_if_op false left ∷ rest) r = if r then go rest r else go (last left rest) r
tail_step go (act_op leaf line ∷ rest) r = acted leaf line (go rest r)
tail_step go (stop_op ∷ rest) r = by_stop
tail_step go (return_op ∷ rest) r = by_return

-- the walk of a tail in at most this many operations
abbrev pub tail_walk : ℕ → Tail → Bool → Walk
tail_walk zero [] r = at_end
tail_walk zero (op ∷ rest) r = cut_off
tail_walk (suc n) tail r = tail_step (tail_walk n) tail r

-- A tail goes this walk, by the truth in the register. It may take as many operations as it has, or
-- more.
pub record Walks (tail : Tail) (does : Bool → Walk) : Type 0 where
  pub by : (n : ℕ) → length tail ≤ n → (r : Bool) → tail_walk n tail r ≡ does r

-- a tail ends with another
pub record Ends (tail after : Tail) : Type 0 where
  pub front : Tail
  pub split : tail ≡ front ++ after

-- each jump of a tail goes to an operation after the jump, or to the end
abbrev pub Forward : Tail → Type 0
Forward [] = Unit {0}
Forward (op ∷ rest) = ((left : ℕ) → target_of op ≡ Some left → left ≤ length rest) × Forward rest

-- ENDS

pub ends_self : (tail : Tail) → Ends tail tail
ends_self tail = record { front = []; split = refl }

pub ends_more : (op : Operation) (tail after : Tail) → Ends tail after → Ends (op ∷ tail) after
ends_more op tail after e = record { front = op ∷ e.front; split = ap (λ t. op ∷ t) e.split }

pub ends_trans : (a b c : Tail) → Ends a b → Ends b c → Ends a c
ends_trans a b c e f = record { front = e.front ++ f.front; split = e.split ∙ ap (λ t. e.front ++ t) f.split ∙ sym (append_assoc e.front f.front c) }

pub ends_below : (tail after : Tail) → Ends tail after → length after ≤ length tail
ends_below tail after e = omega (arith, ap length e.split, length-append e.front after)

drop_front : (front after : Tail) → drop (length front) (front ++ after) ≡ after
drop_front [] after = refl
drop_front (op ∷ front) after = drop_front front after

pub last_of : (tail after : Tail) → Ends tail after → last (length after) tail ≡ after
last_of tail after e =
    let count : length (e.front ++ after) - length after ≡ length e.front = omega (arith, length-append e.front after) in
    ap (last (length after)) e.split ∙ ap (λ n. drop n (e.front ++ after)) count ∙ drop_front e.front after

-- WALKS

walks_more : (op : Operation) (rest : Tail) (does : Bool → Walk) → ((n : ℕ) → length rest ≤ n → (r : Bool) → tail_step (tail_walk n) (op ∷ rest) r ≡ does r) → Walks (op ∷ rest) does
walks_more op rest does h = record { by = more }
  where
    more : (n : ℕ) → length (op ∷ rest) ≤ n → (r : Bool) → tail_walk n (op ∷ rest) r ≡ does r
    more zero le r = absurd (omega (arith, le))
    more (suc n) le r = h n (omega (arith, le)) r

pub walks_none : Walks [] (λ r. at_end)
walks_none = record { by = none }
  where
    none : (n : ℕ) → length {A = Operation} [] ≤ n → (r : Bool) → tail_walk n [] r ≡ at_end
    none zero le r = refl
    none (suc n) le r = refl

module _ (rest : Tail) (does : Bool → Walk) (walks : Walks rest does) where
  pub walks_sets : (truth : Bool) → Walks (set_op truth ∷ rest) (λ r. does truth)
  walks_sets truth = walks_more (set_op truth) rest _ (λ n le r. walks.by n le truth)

  pub walks_inverts : Walks (invert_op ∷ rest) (λ r. does (not r))
  walks_inverts = walks_more invert_op rest _ (λ n le r. walks.by n le (not r))

  pub walks_asks : (ask : Ask) → Walks (test_op ask ∷ rest) (λ r. asked ask (does true) (does false))
  walks_asks ask = walks_more (test_op ask) rest _ (λ n le r. ap (λ w. asked ask w (tail_walk n rest false)) (walks.by n le true) ∙ ap (λ w. asked ask (does true) w) (walks.by n le false))

  pub walks_acts : (leaf : Leaf) (line : ℕ) → Walks (act_op leaf line ∷ rest) (λ r. acted leaf line (does r))
  walks_acts leaf line = walks_more (act_op leaf line) rest _ (λ n le r. ap (acted leaf line) (walks.by n le r))

pub walks_stops : (rest : Tail) → Walks (stop_op ∷ rest) (λ r. by_stop)
walks_stops rest = walks_more stop_op rest _ (λ n le r. refl)

pub walks_returns : (rest : Tail) → Walks (return_op ∷ rest) (λ r. by_return)
walks_returns rest = walks_more return_op rest _ (λ n le r. refl)

-- the walk after a jump that goes by a truth: from its target, or on
abbrev pub landed : (truth r : Bool) → (there on : Walk) → Walk
landed true r there on = if r then there else on
landed false r there on = if r then on else there

module _ (rest target : Tail) (there : Bool → Walk) (ends : Ends rest target) (walks : Walks target there) where
  target_walk : (n : ℕ) → length rest ≤ n → (r : Bool) → tail_walk n (last (length target) rest) r ≡ there r
  target_walk n le r = ap (λ t. tail_walk n t r) (last_of rest target ends) ∙ walks.by n (omega (arith, le, ends_below rest target ends)) r

  pub walks_jumps : Walks (jump_op (length target) ∷ rest) there
  walks_jumps = walks_more (jump_op (length target)) rest there target_walk

  pub walks_jumps_if : (truth : Bool) (on : Bool → Walk) → Walks rest on → Walks (jump_if_op truth (length target) ∷ rest) (λ r. landed truth r (there r) (on r))
  walks_jumps_if truth on w = walks_more (jump_if_op truth (length target)) rest (λ r. landed truth r (there r) (on r)) (λ n le r. way truth n le r)
    where
      way : (t : Bool) (n : ℕ) → length rest ≤ n → (r : Bool) → tail_step (tail_walk n) (jump_if_op t (length target) ∷ rest) r ≡ landed t r (there r) (on r)
      way true n le true = target_walk n le true
      way true n le false = w.by n le false
      way false n le true = w.by n le true
      way false n le false = target_walk n le false

-- JUMPS GO FORWARD

pub forward_plain : (op : Operation) (rest : Tail) → target_of op ≡ None → Forward rest → Forward (op ∷ rest)
forward_plain op rest none f = ((λ left is. absurd (apart (sym none ∙ is))), f)
  where
    apart : {left : ℕ} → None ≡ Some left → ⊥
    apart e = cc

pub forward_jumps : (rest target : Tail) → Ends rest target → Forward rest → Forward (jump_op (length target) ∷ rest)
forward_jumps rest target e f = ((λ left is. let same : length target ≡ left = cc in omega (arith, same, ends_below rest target e)), f)

pub forward_jumps_if : (truth : Bool) (rest target : Tail) → Ends rest target → Forward rest → Forward (jump_if_op truth (length target) ∷ rest)
forward_jumps_if truth rest target e f = ((λ left is. let same : length target ≡ left = cc in omega (arith, same, ends_below rest target e)), f)
