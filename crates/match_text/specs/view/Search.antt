-- Which keys are looked for without copies.
use Rattle.std.specs.Prelude.{ℕ, Bool, ◌||◌, nat_le}

-- by the numbers of octets: the key has at most 64, or it isn't shorter than the value
abbrev pub is_in_place : (value key : ℕ) → Bool
is_in_place value key = nat_le key 64 || nat_le value key
