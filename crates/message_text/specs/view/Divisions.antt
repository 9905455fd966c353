-- An address by its octets and the place of the `@` that divides it.
use Rattle.std.specs.Prelude.{◌≡◌, ℕ, ◌+◌, ◌-◌, ◌<◌, ◌≤◌, Bool, List, length, take, drop, Option, None, Some}
use Rattle.std.specs.List.{after_last, before_last}
use Rattle.message_text.specs.Addresses.{AddrSpec}

-- the address of octets, divided at the place of an `@`, if there is one
abbrev pub divided_at : List ℕ → Option ℕ → AddrSpec
divided_at all None = record { all = all; local_part = None; domain = None }
divided_at all (Some at) = record { all = all; local_part = Some (take at all); domain = Some (drop (at + 1) all) }

-- the place, if there is one, is that of one of the octets
abbrev pub IsWithin : List ℕ → Option ℕ → Type 0
IsWithin all None = Unit {0}
IsWithin all (Some at) = at < length all

-- the place is after the last element that passes, or 0 if none does
pub record IsAfterLast {X : Type 0} (test : X → Bool) (xs : List X) (place : ℕ) : Type 0 where
  pub within : place ≤ length xs
  pub before : before_last test xs ≡ take (place - 1) xs
  pub after : after_last test xs ≡ drop place xs
