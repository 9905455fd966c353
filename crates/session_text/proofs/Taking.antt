-- How octets are taken, some at a time.
use Rattle.std.proofs.Common.{◌≡◌, ℕ, ◌+◌, ◌<◌, ◌≤◌, List, [], ◌++◌, length, take, drop, sym, ap, ◌∙◌, refl, arith, Option, None, Some, length-append, length-drop, length-take, take-append-drop, IfSome}
use Rattle.std.specs.Io.KnownBytes.{Keeps, IsAtEnd, prepend_known}
use Rattle.std.proofs.Math.Seq.{take-add}
use Rattle.std.proofs.lemmas.List.{drop-drop, drop-append-le, take-append-le}
use Rattle.session_text.specs.view.Payload.{BreaksOff, Takes, Grows, FallsShort}

-- nothing is taken in the beginning
pub takes_nothing : (a kept : Option (List ℕ)) → Grows (Some []) kept [] → Takes 0 a a kept
takes_nothing None kept empty = tt
takes_nothing (Some xs) None empty = (omega arith, refl, tt)
takes_nothing (Some xs) (Some octets) empty = (omega arith, refl, empty)

-- octets that are read and not used change nothing of what was taken
pub takes-kept : (count : ℕ) (a b c kept : Option (List ℕ)) → Takes count a b kept → Keeps b c → Takes count a c kept
takes-kept count None b c kept taken same = tt
takes-kept count (Some xs) None c kept taken same = absurd taken
takes-kept count (Some xs) (Some ys) None kept taken same = absurd same
takes-kept count (Some xs) (Some ys) (Some zs) kept taken same = (taken.0, same ∙ taken.1, taken.2)

-- the kept octets grow with those that are taken, and stay the first of all
kept_more : (count part : ℕ) (xs pending rest : List ℕ) (old new : Option (List ℕ)) → part ≤ length pending → pending ++ rest ≡ drop count xs
    → IfSome old (λ octets. octets ≡ take count xs) → Grows old new (take part pending) → IfSome new (λ octets. octets ≡ take (count + part) xs)
kept_more count part xs pending rest old None within split before grown = tt
kept_more count part xs pending rest None (Some new) within split before grown = absurd grown
kept_more count part xs pending rest (Some old) (Some new) within split before grown =
    grown ∙ ap (λ l. l ++ take part pending) before
    ∙ ap (λ l. take count xs ++ l) (sym (take-append-le part pending rest within) ∙ ap (take part) split)
    ∙ sym (take-add count part xs)

-- more octets are taken
pub takes-more : (count part : ℕ) (a rest : Option (List ℕ)) (pending : List ℕ) (old new : Option (List ℕ)) → part ≤ length pending
    → Takes count a (prepend_known pending rest) old → Grows old new (take part pending) → Takes (count + part) a (prepend_known (drop part pending) rest) new
takes-more count part None rest pending old new within taken grown = tt
takes-more count part (Some xs) None pending old new within taken grown = absurd taken
takes-more count part (Some xs) (Some ys) pending old new within taken grown =
    let size : length pending + length ys ≡ length (drop count xs) = sym (length-append pending ys) ∙ ap length taken.1 in (
      omega (arith, length-drop count xs, taken.0, size),
      sym (drop-append-le part pending ys within) ∙ ap (drop part) taken.1 ∙ drop-drop part count xs,
      kept_more count part xs pending ys old new within taken.1 taken.2 grown,
    )

-- the input ends before all octets are taken
pub takes-short : (taken count : ℕ) (a rest : Option (List ℕ)) (pending : List ℕ) (kept : Option (List ℕ)) → taken < count → pending ≡ [] → IsAtEnd rest
    → Takes taken a (prepend_known pending rest) kept → FallsShort count a rest
takes-short taken count None rest pending kept less none end so_far = end
takes-short taken count (Some xs) None pending kept less none end so_far = absurd so_far
takes-short taken count (Some xs) (Some ys) pending kept less none end so_far =
    let size : length pending + length ys ≡ length (drop taken xs) = sym (length-append pending ys) ∙ ap length so_far.1 in
    (omega (arith, length-drop taken xs, size, ap length none, ap length end, so_far.0), end)

-- no more octets can be read before all are taken
pub takes-broken : (taken count : ℕ) (a rest : Option (List ℕ)) (pending : List ℕ) (kept : Option (List ℕ)) → taken < count → pending ≡ []
    → Takes taken a (prepend_known pending rest) kept → BreaksOff count a rest
takes-broken taken count None rest pending kept less none so_far = tt
takes-broken taken count (Some xs) None pending kept less none so_far = absurd so_far
takes-broken taken count (Some xs) (Some ys) pending kept less none so_far =
    let back : ys ≡ drop taken xs = ap (λ l. l ++ ys) (sym none) ∙ so_far.1 in (
      take taken xs,
      sym (take-append-drop taken xs) ∙ ap (λ l. take taken xs ++ l) (sym back),
      omega (arith, length-take taken xs, so_far.0, less),
    )

pub ruleset taking = (takes_nothing, takes-kept, takes-more, takes-short, takes-broken)
