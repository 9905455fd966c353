-- The octets that digits and items stand for.
use Rattle.std.proofs.Common.{◌≡◌, ℕ, zero, suc, ◌+◌, ◌*◌, ◌<◌, Bool, false, cond, List, [], ◌∷◌, ◌++◌, length, drop, get_or, Option, None, Some, refl, sym, ◌∙◌, ap, append_assoc, arith}
use Rattle.std.specs.Option.{option_and_then, option_map}
use Rattle.std.proofs.lemmas.Bool.Decides.{nat_tests}
use Rattle.octets.specs.Hex.{hex_octet, hex_value}
use Rattle.octets.specs.Octet.{octet_of}
use Rattle.encoded_characters.specs.Sequence.{InsideSequence}
use Rattle.encoded_characters.specs.Value.{character_of, if_character, is_character, joined, number_from, octets_before, octets_of_digits}
use Rattle.encoded_characters.specs.view.Sequence.{grown}

-- the octets that items stand for
abbrev pub octets_of_items : (hex : Bool) → InsideSequence → Option (List ℕ)
octets_of_items hex inside = joined (λ item. octets_of_digits hex item.digits) inside.items

-- octets of a first one, and then of others
pub grown_more : (done next : List ℕ) (first after whole : Option (List ℕ)) → Some next ≡ grown done first → grown done (octets_before first after) ≡ whole → grown next after ≡ whole
grown_more done next None after whole is so_far = absurd cc
grown_more done next (Some front) None whole is so_far = so_far
grown_more done next (Some front) (Some more) whole is so_far =
    let same : next ≡ done ++ front = cc in
    ap (λ one. Some (one ++ more)) same ∙ ap Some (append_assoc done front more) ∙ so_far

-- where the first stands for nothing, so do all
pub grown_none : (done : List ℕ) (first after whole : Option (List ℕ)) → None ≡ grown done first → grown done (octets_before first after) ≡ whole → None ≡ whole
grown_none done None after whole is so_far = so_far
grown_none done (Some front) after whole is so_far = absurd cc

-- numbers

past_all : (n : ℕ) → 0x10FFFF < n → is_character n ≡ false
past_all n past = grind (arith, nat_tests, past)

number_grows : (n : ℕ) (digits : List ℕ) (found : Option ℕ) → ((m : ℕ) → 0x10FFFF < m → option_and_then if_character (number_from m digits) ≡ None) → 0x10FFFF < n → option_and_then if_character (option_and_then (λ value. number_from (16 * n + value) digits) found) ≡ None
number_grows n digits None after past = refl
number_grows n digits (Some value) after past = after (16 * n + value) (omega arith)

-- a number that is too great stays so with more digits
pub too_great : (n : ℕ) (digits : List ℕ) → 0x10FFFF < n → option_and_then if_character (number_from n digits) ≡ None
too_great n [] past = ap (λ b. cond b (Some n) None) (past_all n past)
too_great n (digit ∷ digits) past = number_grows n digits (hex_value digit) (λ m more. too_great m digits more) past

zero_high : (digit value : ℕ) → hex_octet (octet_of "0") digit ≡ Some value → hex_value digit ≡ Some value
zero_high digit value is = by_value (hex_value digit) is
  where
    by_value : (found : Option ℕ) → option_map (λ low. 16 * 0 + low) found ≡ Some value → found ≡ Some value
    by_value None is = absurd cc
    by_value (Some low) is =
        let same : 16 * 0 + low ≡ value = cc in
        let plain : low ≡ value = omega arith in
        ap Some plain

-- a number takes one digit more
pub number_step : (digits : List ℕ) (i n value next : ℕ) → i < length digits → hex_octet (octet_of "0") (get_or digits i 0) ≡ Some value → next ≡ 16 * n + value → number_from n (drop i digits) ≡ number_from next (drop (suc i) digits)
number_step [] i n value next within is sum = absurd (omega arith)
number_step (digit ∷ digits) zero n value next within is sum =
    ap (λ found. option_and_then (λ value. number_from (16 * n + value) digits) found) (zero_high digit value is) ∙ ap (λ m. number_from m digits) (sym sum)
number_step (digit ∷ digits) (suc i) n value next within is sum = number_step digits i n value next (omega arith) is sum

pub character_past : (digits : List ℕ) (i n value next : ℕ) → i < length digits → hex_octet (octet_of "0") (get_or digits i 0) ≡ Some value → next ≡ 16 * n + value → 0x10FFFF < next → number_from n (drop i digits) ≡ number_from 0 digits → None ≡ character_of digits
character_past digits i n value next within is sum past so_far =
    sym (ap (option_and_then if_character) (sym so_far ∙ number_step digits i n value next within is sum) ∙ too_great next (drop (suc i) digits) past)
