-- How many octets of a value keys need.
use Rattle.std.proofs.Common.{◌≡◌, ℕ, suc, ◌≤◌, IsSome, Bool, true, false, not, ◌&&◌, ◌||◌, ◌==◌, List, [], ◌∷◌, ◌++◌, length, filter, drop, Option, None, Some, refl, sym, arith}
use Rattle.std.specs.Prelude.{nat_le, option_to_list, if◌then◌else◌}
use Rattle.std.proofs.lemmas.Bool.{eqb-true, le-leb, false≢true}
use Rattle.std.proofs.lemmas.List.{length-drop}
use Rattle.std.specs.Option.{option_map}
use Rattle.octets.specs.Octet.{octet_of}
use Rattle.match_text.specs.Comparator.{is_part, same}
use Rattle.match_text.specs.Room.{may_match, takes_one}
use Rattle.match_text.specs.Wildcard.{Fits, items_from, items_of, least_fit, matched, taken}
use Rattle.match_text.specs.declared.pattern.Item.{Item}
use Rattle.match_text.specs.declared.pattern.Item.TheVariants.{Star, Question, Literal}
use Rattle.match_text.specs.declared.room.KeyKind.TheVariants.{Part, Pattern, Whole}
use Rattle.match_text.specs.view.Room.{takes_octet}
use Rattle.match_text.proofs.Deciding.{is_part-Decides, same-Decides}
use Rattle.match_text.proofs.LeastFit.{least_fit-some}
use Rattle.match_text.proofs.Places.{part_len}

-- a fit has an octet for each item that takes one
pub fit_needs : (fold : ℕ → ℕ) (items : List Item) (value lengths : List ℕ) → Fits fold items value lengths → length (filter takes_one items) ≤ length value
fit_needs fold [] value lengths fits = omega arith
fit_needs fold (Literal b ∷ items) [] lengths fits = absurd fits
fit_needs fold (Literal b ∷ items) (x ∷ value) lengths fits = let rest = fit_needs fold items value lengths fits.1 in omega (arith, rest)
fit_needs fold (Question ∷ items) [] lengths fits = absurd fits
fit_needs fold (Question ∷ items) (x ∷ value) [] fits = absurd fits
fit_needs fold (Question ∷ items) (x ∷ value) (n ∷ lengths) fits = let rest = fit_needs fold items value lengths fits.1 in omega (arith, rest)
fit_needs fold (Star ∷ items) value [] fits = absurd fits
fit_needs fold (Star ∷ items) value (n ∷ lengths) fits =
    let rest = fit_needs fold items (drop n value) lengths fits.1 in omega (arith, rest, length-drop n value)

-- how many items take an octet, by whether the item of a pattern's first octet does
took_by : (b : ℕ) (items : List Item) (p s q k : Bool) → (p || (not s && not k)) ≡ true → length (filter takes_one (option_to_list (if p then Some (Literal b) else if s then Some Star else if q then Some Question else if k then None else Some (Literal b)) ++ items)) ≡ suc (length (filter takes_one items))
took_by b items true s q k is = refl
took_by b items false true q k is = absurd (false≢true is)
took_by b items false false q true is = absurd (false≢true is)
took_by b items false false true false is = refl
took_by b items false false false false is = refl

passed_by : (b : ℕ) (items : List Item) (p s q k : Bool) → (q ≡ true → k ≡ true → ⊥) → (p || (not s && not k)) ≡ false → length (filter takes_one (option_to_list (if p then Some (Literal b) else if s then Some Star else if q then Some Question else if k then None else Some (Literal b)) ++ items)) ≡ length (filter takes_one items)
passed_by b items true s q k apart is = absurd (false≢true (sym is))
passed_by b items false true q k apart is = refl
passed_by b items false false q false apart is = absurd (false≢true (sym is))
passed_by b items false false true true apart is = absurd (apart refl refl)
passed_by b items false false false true apart is = refl

pub took : (p : Bool) (b : ℕ) (rest : List ℕ) → takes_octet p b ≡ true → length (filter takes_one (items_from p (b ∷ rest))) ≡ suc (length (filter takes_one (items_from (not p && b == octet_of "\\") rest)))
took p b rest is = took_by b (items_from (not p && b == octet_of "\\") rest) p (b == octet_of "*") (b == octet_of "?") (b == octet_of "\\") is

pub passed : (p : Bool) (b : ℕ) (rest : List ℕ) → takes_octet p b ≡ false → length (filter takes_one (items_from p (b ∷ rest))) ≡ length (filter takes_one (items_from (not p && b == octet_of "\\") rest))
passed p b rest is = passed_by b (items_from (not p && b == octet_of "\\") rest) p (b == octet_of "*") (b == octet_of "?") (b == octet_of "\\") (λ q k. let e = eqb-true b (octet_of "?") q in let f = eqb-true b (octet_of "\\") k in absurd (omega (arith, e, f))) is

pub nat_le-true : (a b : ℕ) → a ≤ b → nat_le a b ≡ true
nat_le-true a b is = le-leb a b is

pub whole_needs : (fold : ℕ → ℕ) (value key : List ℕ) → same fold value key ≡ true → may_match Whole (length value) key ≡ true
whole_needs fold value key is = let lengths = ((same-Decides fold value key).0 is).equal_lengths in grind (arith, lengths)

pub part_needs : (fold : ℕ → ℕ) (value key : List ℕ) → is_part fold value key ≡ true → may_match Part (length value) key ≡ true
part_needs fold value key is =
    let part = (is_part-Decides fold value key).0 is in
    let long = part_len fold value key part in
    let within = part.within in
    nat_le-true _ _ (omega (arith, long, within))

pattern_by : (fold : ℕ → ℕ) (items : List Item) (value : List ℕ) (r : Option (List ℕ)) → least_fit fold items value ≡ r → IsSome (option_map (λ lengths. value ∷ taken items lengths value) r) → length (filter takes_one items) ≤ length value
pattern_by fold items value None is some = absurd (false≢true some)
pattern_by fold items value (Some lengths) is some = fit_needs fold items value lengths ((least_fit-some fold items value lengths).0 is).fits

pub pattern_needs : (fold : ℕ → ℕ) (value key : List ℕ) → IsSome (matched fold value key) → may_match Pattern (length value) key ≡ true
unfolding matched
pattern_needs fold value key some = nat_le-true _ _ (pattern_by fold (items_of key) value _ refl some)
