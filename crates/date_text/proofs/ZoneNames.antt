-- The names of zones.
use Rattle.std.proofs.Common.{◌≡◌, ℕ, ◌*◌, Bool, true, false, ◌||◌, List, [], ◌∷◌, codes, if◌then◌else◌, refl, ap, arith}
use Rattle.std.specs.List.{list_any}
use Rattle.date_text.specs.Words.{DateWord}
use Rattle.date_text.specs.Zone.{Zone, east, is_same_name, west, zone_of_letters}

-- the names that say a zone
abbrev pub zone_names : List (List ℕ)
zone_names = codes "UT" ∷ codes "GMT" ∷ codes "EST" ∷ codes "CDT" ∷ codes "EDT" ∷ codes "CST" ∷ codes "MDT" ∷ codes "MST" ∷ codes "PDT" ∷ codes "PST" ∷ []

abbrev by_names : (ut gmt est cdt edt cst mdt mst pdt pst : Bool) → Zone
by_names ut gmt est cdt edt cst mdt mst pdt pst = if ut || gmt then east 0 else if est || cdt then west (5 * 60) else if edt then west (4 * 60) else if cst || mdt then west (6 * 60) else if mst || pdt then west (7 * 60) else if pst then west (8 * 60) else west 0

unknown_step : (ut gmt est cdt edt cst mdt mst pdt pst : Bool) → (ut || (gmt || (est || (cdt || (edt || (cst || (mdt || (mst || (pdt || (pst || false)))))))))) ≡ false → by_names ut gmt est cdt edt cst mdt mst pdt pst ≡ west 0
unknown_step true gmt est cdt edt cst mdt mst pdt pst is = absurd (let e : true ≡ false = is in cc)
unknown_step false true est cdt edt cst mdt mst pdt pst is = absurd (let e : true ≡ false = is in cc)
unknown_step false false true cdt edt cst mdt mst pdt pst is = absurd (let e : true ≡ false = is in cc)
unknown_step false false false true edt cst mdt mst pdt pst is = absurd (let e : true ≡ false = is in cc)
unknown_step false false false false true cst mdt mst pdt pst is = absurd (let e : true ≡ false = is in cc)
unknown_step false false false false false true mdt mst pdt pst is = absurd (let e : true ≡ false = is in cc)
unknown_step false false false false false false true mst pdt pst is = absurd (let e : true ≡ false = is in cc)
unknown_step false false false false false false false true pdt pst is = absurd (let e : true ≡ false = is in cc)
unknown_step false false false false false false false false true pst is = absurd (let e : true ≡ false = is in cc)
unknown_step false false false false false false false false false true is = absurd (let e : true ≡ false = is in cc)
unknown_step false false false false false false false false false false is = refl

known_step : (ut gmt est cdt edt cst mdt mst pdt pst : Bool) → (ut || (gmt || (est || (cdt || (edt || (cst || (mdt || (mst || (pdt || (pst || false)))))))))) ≡ true → by_names ut gmt est cdt edt cst mdt mst pdt pst ≡ west 0 → ⊥
known_step true gmt est cdt edt cst mdt mst pdt pst is same = absurd (let e : false ≡ true = ap (λ (z : Zone). z.west) same in cc)
known_step false true est cdt edt cst mdt mst pdt pst is same = absurd (let e : false ≡ true = ap (λ (z : Zone). z.west) same in cc)
known_step false false true cdt edt cst mdt mst pdt pst is same = absurd (let e : 5 * 60 ≡ 0 = ap (λ (z : Zone). z.minutes) same in omega (arith, e))
known_step false false false true edt cst mdt mst pdt pst is same = absurd (let e : 5 * 60 ≡ 0 = ap (λ (z : Zone). z.minutes) same in omega (arith, e))
known_step false false false false true cst mdt mst pdt pst is same = absurd (let e : 4 * 60 ≡ 0 = ap (λ (z : Zone). z.minutes) same in omega (arith, e))
known_step false false false false false true mdt mst pdt pst is same = absurd (let e : 6 * 60 ≡ 0 = ap (λ (z : Zone). z.minutes) same in omega (arith, e))
known_step false false false false false false true mst pdt pst is same = absurd (let e : 6 * 60 ≡ 0 = ap (λ (z : Zone). z.minutes) same in omega (arith, e))
known_step false false false false false false false true pdt pst is same = absurd (let e : 7 * 60 ≡ 0 = ap (λ (z : Zone). z.minutes) same in omega (arith, e))
known_step false false false false false false false false true pst is same = absurd (let e : 7 * 60 ≡ 0 = ap (λ (z : Zone). z.minutes) same in omega (arith, e))
known_step false false false false false false false false false true is same = absurd (let e : 8 * 60 ≡ 0 = ap (λ (z : Zone). z.minutes) same in omega (arith, e))
known_step false false false false false false false false false false is same = absurd (let e : false ≡ true = is in cc)

pub zone_unknown : (word : DateWord) → list_any (is_same_name word) zone_names ≡ false → zone_of_letters word ≡ west 0
zone_unknown word is = unknown_step (is_same_name word (codes "UT")) (is_same_name word (codes "GMT")) (is_same_name word (codes "EST")) (is_same_name word (codes "CDT")) (is_same_name word (codes "EDT")) (is_same_name word (codes "CST")) (is_same_name word (codes "MDT")) (is_same_name word (codes "MST")) (is_same_name word (codes "PDT")) (is_same_name word (codes "PST")) is

pub zone_known : (word : DateWord) → list_any (is_same_name word) zone_names ≡ true → zone_of_letters word ≡ west 0 → ⊥
zone_known word is same = known_step (is_same_name word (codes "UT")) (is_same_name word (codes "GMT")) (is_same_name word (codes "EST")) (is_same_name word (codes "CDT")) (is_same_name word (codes "EDT")) (is_same_name word (codes "CST")) (is_same_name word (codes "MDT")) (is_same_name word (codes "MST")) (is_same_name word (codes "PDT")) (is_same_name word (codes "PST")) is same
