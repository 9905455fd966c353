-- Cases on a test and on an option, and the two sides of `&&` and of `||`.
use Rattle.std.proofs.Common.{◌≡◌, ◌&&◌, ◌||◌, Bool, true, false, Option, Some, None, refl}

-- a claim on both outcomes, each with its equation, holds of the test
pub by_cases : (b : Bool) (P : Bool → Type 0) → (b ≡ true → P true) → (b ≡ false → P false) → P b
by_cases true P holds fails = holds refl
by_cases false P holds fails = fails refl

pub by_option : {A : Type 0} (o : Option A) (P : Option A → Type 0) → ((x : A) → o ≡ Some x → P (Some x)) → (o ≡ None → P None) → P o
by_option (Some x) P found absent = found x refl
by_option None P found absent = absent refl

pub and_left : (a b : Bool) → (a && b) ≡ true → a ≡ true
and_left true b e = refl
and_left false b e = e

pub and_right : (a b : Bool) → (a && b) ≡ true → b ≡ true
and_right true b e = e
and_right false b e = cc

pub both_true : (a b : Bool) → a ≡ true → b ≡ true → (a && b) ≡ true
both_true true b e f = f
both_true false b e f = e

pub nor_left : (a b : Bool) → (a || b) ≡ false → a ≡ false
nor_left true b e = e
nor_left false b e = refl

pub nor_right : (a b : Bool) → (a || b) ≡ false → b ≡ false
nor_right true b e = cc
nor_right false b e = e
